-- What the two formats say in numbers, and products with the size of a rule.
use mathlib.Core.Path.{◌≡◌, refl, sym, ap, ◌∙◌}
use mathlib.Core.Bool.{Bool, true, false, not}
use Prim.Native.Nat.{ℕ, zero, suc, ◌+◌, ◌-◌, ◌*◌, ◌^◌, ◌≤◌, ◌<◌}
use native.Mathlib.Nat.{pow-suc, mul-le-mul_right}
use lib.Pow.{pow-add}
use native.Mathlib.Omega.{arith}
use lib.Dec.{eqb}
use borrow.Author.Tests.{eq-eqb, ne_eqb}
use Rattle.words.proofs.Tests.{not-true}
use Rattle.rules.specs.Rules.{choose}
use Rattle.rules.specs.Checks.{widest}
use Rattle.image_form.specs.declared.FormatLayout.{FormatLayout}
use Rattle.image_form.specs.Formats.{known, word_bytes, rule_size, most_places, layout_of}

module _ (f : ℕ) where
  module _ (e : f ≡ 1) where
    pub word-one : word_bytes f ≡ 8
    unfolding word_bytes
    word-one = ap (λ (t : Bool). choose t 8 16) (eq-eqb f 1 e)

  module _ (e : f ≡ 1 → ⊥) where
    pub word_two : word_bytes f ≡ 16
    unfolding word_bytes
    word_two = ap (λ (t : Bool). choose t 8 16) (ne_eqb f 1 e)

  -- a rule is two words and two bytes
  pub rule-words : rule_size f ≡ word_bytes f + word_bytes f + 2
  unfolding rule_size
  rule-words = refl

  pub places-words : most_places f ≡ 8 * word_bytes f
  unfolding most_places
  places-words = refl

-- no format has less than 8 bytes to a word
pub word-least : (f : ℕ) → 8 ≤ word_bytes f
unfolding word_bytes
word-least f = within (eqb f 1)
  where
    within : (t : Bool) → 8 ≤ choose t 8 16
    within true = omega arith
    within false = omega arith

-- nor more than 16
pub word-most : (f : ℕ) → word_bytes f ≤ 16
unfolding word_bytes
word-most f = within (eqb f 1)
  where
    within : (t : Bool) → choose t 8 16 ≤ 16
    within true = omega arith
    within false = omega arith

-- nor less than 18 to a rule
pub rule-least : (f : ℕ) → 18 ≤ rule_size f
rule-least f = omega (arith, rule-words f, word-least f)

-- no format is wider than the rule library goes
pub places-most : (f : ℕ) → most_places f ≤ widest
unfolding most_places word_bytes
places-most f = within (eqb f 1)
  where
    within : (t : Bool) → 8 * choose t 8 16 ≤ widest
    within true = omega arith
    within false = omega arith

-- no format has more than 34 bytes to a rule
pub rule-most : (f : ℕ) → rule_size f ≤ 34
unfolding rule_size word_bytes
rule-most f = within (eqb f 1)
  where
    within : (t : Bool) → choose t 8 16 + choose t 8 16 + 2 ≤ 34
    within true = omega arith
    within false = omega arith

-- eight places to a byte
pub places-bytes : (n : ℕ) → 2 ^ (8 * n) ≡ 256 ^ n
places-bytes zero = refl
places-bytes (suc n) =
    let e : 8 * suc n ≡ 8 * n + 8 = omega arith in
    ap (λ (k : ℕ). 2 ^ k) e ∙ pow-add 2 (8 * n) 8 ∙ ap (λ (k : ℕ). k * 256) (places-bytes n) ∙ sym (pow-suc 256 n)

-- ---- a layout that is the format's own

-- what is not false is true
not-false : (b : Bool) → not b ≡ false → b ≡ true
not-false true e = refl
not-false false e = sym e

module _ (f : ℕ) (l : FormatLayout) (e : l ≡ layout_of f) where
  -- it says whether there is such a format
  is_known : l.known ≡ known f
  is_known = ap (λ (x : FormatLayout). x.known) e

  -- a format that it does not know is none
  pub layout-unknown : not l.known ≡ true → known f ≡ false
  layout-unknown q = sym is_known ∙ not-true l.known q

  -- a format that it knows is one
  pub layout-known : not l.known ≡ false → known f ≡ true
  layout-known q = sym is_known ∙ not-false l.known q

  -- its word is the format's
  pub layout-word : l.word ≡ word_bytes f
  layout-word = ap (λ (x : FormatLayout). x.word) e

  -- its rule is the format's
  pub layout-rule : l.rule ≡ rule_size f
  layout-rule = ap (λ (x : FormatLayout). x.rule) e

  -- its greatest width is the format's
  pub layout-places : l.places ≡ most_places f
  layout-places = ap (λ (x : FormatLayout). x.places) e

  -- n rules take as many bytes as n of the format, and at most 34 each
  pub layout-body : (n : ℕ) → (l.rule * n ≡ rule_size f * n) × (l.rule * n ≤ 34 * n)
  layout-body n =
      let same : l.rule * n ≡ rule_size f * n = ap (λ (k : ℕ). k * n) layout-rule in
      (same, omega (arith, same, mul-le-mul_right n (rule-most f)))

-- ---- a product with a number that goes down, or up to another

pub times-turn : (z n : ℕ) → 0 < n → z * n ≡ z + z * (n - 1)
times-turn z zero h = absurd (let x : ⊥ = omega arith in x)
times-turn z (suc n) h = let e : suc n - 1 ≡ n = omega arith in omega (arith, ap (λ (k : ℕ). z * k) e)

pub times-left : (z n i : ℕ) → i ≤ n → z * n ≡ z * i + z * (n - i)
times-left z n i h = let e : i + (n - i) ≡ n = omega arith in omega (arith, ap (λ (k : ℕ). z * k) e)

pub times-less : (z n i : ℕ) → i < n → z * i + z ≤ z * n
times-less z n i h = let e = times-left z n (i + 1) (omega arith) in omega arith

pub times_down : (z n i : ℕ) → i < n → z * (n - i) ≡ z + z * (n - (i + 1))
times_down z n i h =
    let e : n - i - 1 ≡ n - (i + 1) = omega arith in
    times-turn z (n - i) (omega arith) ∙ ap (λ (k : ℕ). z + z * k) e
