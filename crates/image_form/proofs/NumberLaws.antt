-- Numbers from bytes: the library's number of 8 bytes is the number that they stand for, and a word and a rule are made of such numbers.
use mathlib.Core.Path.{◌≡◌, sym, ap, ap₂, ◌∙◌}
use mathlib.Core.List.{List, [], ◌∷◌, ◌++◌}
use Prim.Native.Nat.{ℕ, zero, suc, ◌+◌, ◌-◌, ◌*◌, ◌^◌, ◌≤◌, ◌<◌}
use native.Mathlib.Nat.{pow-suc}
use native.Mathlib.Omega.{arith}
use lib.ListN.{length, get_or, take, drop, length-drop, length-append, take-append-drop}
use lib.Seq.{drop-drop, take-suc, take-take, take_all, length-take-le}
use Rattle.std.proofs.lemmas.List.{drop-take, drop_all}
use Rattle.std.proofs.Common.{Fits, w8, w32, w64, replicate}
use Rattle.std.specs.Int.{from_le_bytes, sum_through, byte_worth}
use Rattle.words.specs.declared.Word.{Word}
use Rattle.words.specs.Halves.{word, halves}
use Rattle.words.proofs.WordLaws.{made}
use Rattle.rules.specs.declared.Rule.{Rule as Held}
use Rattle.rules.specs.Rule.{held}
use Rattle.rules.specs.Rules.{rule}
use Rattle.image_form.specs.Bytes.{le, number_in, part}
use Rattle.image_form.specs.Formats.{word_bytes, rule_size}
use Rattle.image_form.specs.Images.{rule_in}
use Rattle.image_form.proofs.FormatLaws.{rule-words}

pub le-append : (a b : List ℕ) → le (a ++ b) ≡ le b * 256 ^ length a + le a
unfolding le
le-append [] b = omega arith
le-append (x ∷ a) b = rw pow-suc (omega (arith, ap (λ (k : ℕ). k * 256) (le-append a b)))

pub length_part : (n p : ℕ) (s : List ℕ) → p + n ≤ length s → length (part n p s) ≡ n
length_part n p s h = length-take-le n (drop p s) (omega (arith, length-drop p s))

-- every number of bytes is below as many places of 256 as there are bytes
pub le-below : (s : List ℕ) → ((i : ℕ) → Fits w8 (get_or s i 0)) → le s < 256 ^ length s
unfolding le
le-below [] h = omega arith
le-below (b ∷ s) h = rw pow-suc (omega (arith, le-below s (λ i. h (suc i)), h 0))

zeros-none : (n m : ℕ) → le (drop n (replicate m 0)) ≡ 0
unfolding le
zeros-none zero zero = omega arith
zeros-none zero (suc m) = omega (arith, zeros-none zero m)
zeros-none (suc n) zero = omega arith
zeros-none (suc n) (suc m) = zeros-none n m

-- the library's sum of bytes, each at its worth
worths : (s : List ℕ) (k : ℕ) → k < length s → sum_through (λ i. byte_worth i (get_or s i 0)) k ≡ le (take (suc k) s)
unfolding le
worths [] k h = absurd (omega arith)
worths (x ∷ s) zero h = omega arith
worths (x ∷ s) (suc k) h =
    let l : length (take (suc k) (x ∷ s)) ≡ suc k = length-take-le (suc k) (x ∷ s) (omega arith) in
    let e : le (take (suc (suc k)) (x ∷ s)) ≡ le (get_or s k 0 ∷ []) * 256 ^ length (take (suc k) (x ∷ s)) + le (take (suc k) (x ∷ s)) =
    ap le (take-suc (x ∷ s) (suc k) 0 h) ∙ le-append (take (suc k) (x ∷ s)) (get_or s k 0 ∷ []) in
    omega (arith, worths (x ∷ s) k (omega arith), e, ap (λ (j : ℕ). get_or s k 0 * 256 ^ j) l)

-- the library's number of 8 bytes, of which the last are 0
pub eight-padded : (s : List ℕ) (n : ℕ) → length s ≤ 8 → n ≡ from_le_bytes w64 (s ++ drop (length s) (replicate 8 0)) → n ≡ le s
eight-padded s n h e =
    let t : List ℕ = s ++ drop (length s) (replicate 8 0) in
    let l : length t ≡ 8 = omega (arith, length-append s (drop (length s) (replicate 8 0)), length-drop (length s) (replicate {A = ℕ} 8 0)) in
    let z : le t ≡ 0 * 256 ^ length s + le s =
    le-append s (drop (length s) (replicate 8 0)) ∙ ap (λ (k : ℕ). k * 256 ^ length s + le s) (zeros-none (length s) 8) in
    e ∙ worths t 7 (omega arith) ∙ ap le (take_all 8 t (omega arith)) ∙ z ∙ omega arith

-- past the end there are no bytes, which are 0
pub le-past : (n : ℕ) (s : List ℕ) → length s ≤ n → 0 ≡ le (drop n s)
unfolding le
le-past n s h = sym (ap le (drop_all n s h))

-- a number of n bytes is below as many places of 256
pub le-fits : (n : ℕ) (s : List ℕ) → ((i : ℕ) → Fits w8 (get_or s i 0)) → n ≤ length s → le (take n s) < 256 ^ n
unfolding le
le-fits zero s f h = omega arith
le-fits (suc n) [] f h = absurd (omega arith)
le-fits (suc n) (b ∷ s) f h = rw pow-suc (omega (arith, le-fits n s (λ i. f (suc i)) (omega arith), f 0))

-- the library's number of the first 4 bytes
pub four-read : (s : List ℕ) (n : ℕ) → 4 ≤ length s → ((i : ℕ) → Fits w8 (get_or s i 0))
    → n ≡ from_le_bytes w32 (get_or s 0 0 ∷ get_or s 1 0 ∷ get_or s 2 0 ∷ get_or s 3 0 ∷ []) → (n ≡ le (take 4 s)) × (n < 256 ^ length (take 4 s))
four-read [] n h f e = absurd (omega arith)
four-read (a ∷ []) n h f e = absurd (omega arith)
four-read (a ∷ b ∷ []) n h f e = absurd (omega arith)
four-read (a ∷ b ∷ c ∷ []) n h f e = absurd (omega arith)
four-read (a ∷ b ∷ c ∷ d ∷ s) n h f e =
    let q : n ≡ le (a ∷ b ∷ c ∷ d ∷ []) = e ∙ worths (a ∷ b ∷ c ∷ d ∷ []) 3 (omega arith) in
    (q, rw q (le-fits 4 (a ∷ b ∷ c ∷ d ∷ s) f h))

-- ---- words: one number of 8 bytes in format 1, and two in format 2

-- a word whose first half is 8 bytes, and its second the others
pub halves-split : (s : List ℕ) (low high : ℕ) → 8 ≤ length s → low ≡ le (take 8 s) → low < 2 ^ 64 → high ≡ le (drop 8 s) → word low high ≡ halves (le s)
halves-split s low high h p small q =
    made low high (le s) small
    (ap le (sym (take-append-drop 8 s)) ∙ le-append (take 8 s) (drop 8 s)
    ∙ ap₂ (λ (x y : ℕ). x * 256 ^ length (take 8 s) + y) (sym q) (sym p) ∙ ap (λ (k : ℕ). high * 256 ^ k + low) (length-take-le 8 s h) ∙ omega arith)

-- what stands in the first bytes is what stands in all of them: a number, and a rule
pub num-within : (n p m : ℕ) (s : List ℕ) → p + n ≤ m → number_in n p (take m s) ≡ number_in n p s
num-within n p m s h =
    ap (λ (k : ℕ). number_in n p (take k s)) (let e : m ≡ p + (m - p) = omega arith in e) ∙ ap (λ (l : List ℕ). le (take n l)) (drop-take p (m - p) s)
    ∙ ap le (take-take n (m - p) (drop p s) (omega arith))

pub rule-within : (fmt m : ℕ) (s : List ℕ) → rule_size fmt ≤ m → rule_in fmt (take m s) ≡ rule_in fmt s
rule-within fmt m s h =
    let w : ℕ = word_bytes fmt in
    let e = rule-words fmt in
    λ j. rule (num-within w 0 m s (omega arith) j) (num-within w w m s (omega arith) j) (num-within 2 (w + w) m s (omega arith) j)

-- a rule from the bytes of its two words and of its decision
module _ (fmt size : ℕ) (s : List ℕ) (e : size ≡ word_bytes fmt) (all : length s ≡ rule_size fmt) where
  pub rule-from : (a rest b d : List ℕ) (c v : Word) (n : ℕ) → a ≡ take size s → rest ≡ drop size s → b ≡ take size rest → d ≡ drop size rest
      → c ≡ halves (le a) → v ≡ halves (le b) → n ≡ le d → ◌≡◌ {A = Held} (record { care = c; value = v; decision = n }) (held (rule_in fmt s))
  rule-from a rest b d c v n p q r t x y z =
      let w : ℕ = word_bytes fmt in
      let left : length (drop (w + w) s) ≡ 2 = omega (arith, length-drop (w + w) s, rule-words fmt) in
      let c' : c ≡ halves (number_in w 0 s) = x ∙ ap (λ (l : List ℕ). halves (le l)) (p ∙ ap (λ (k : ℕ). take k s) e) in
      let v' : v ≡ halves (number_in w w s) = y ∙ ap (λ (l : List ℕ). halves (le l)) (r ∙ ap (take size) q ∙ ap (λ (k : ℕ). take k (drop k s)) e) in
      let n' : n ≡ number_in 2 (w + w) s =
      z ∙ ap le (t ∙ ap (drop size) q ∙ ap (λ (k : ℕ). drop k (drop k s)) e ∙ drop-drop w w s ∙ sym (take_all 2 (drop (w + w) s) (omega arith))) in
      λ j. record { care = c' j; value = v' j; decision = n' j }
