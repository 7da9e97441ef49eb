-- The prefixes of a range from its lowest number on: first the greatest prefix that starts there, then those of the rest.
use mathlib.Core.Path.{◌≡◌, sym, ap, ap₂, ◌∙◌, subst}
use mathlib.Core.List.{List, [], ◌∷◌, ◌++◌, map}
use mathlib.Core.Bool.{true, false}
use Prim.Native.Nat.{ℕ, zero, suc, ◌+◌, ◌-◌, ◌*◌, ◌%◌, ◌^◌, ◌≤◌, ◌<◌, min}
use native.Mathlib.Omega.{arith}
use native.Mathlib.Nat.{pow-suc, mod-eq_of_lt}
use lib.Dec.{eqb, leb, ltb}
use lib.Pow.{pow_pos, pow_mono, pow-lt}
use lib.ListN.{length}
use borrow.Author.Tests.{le-leb, leb-true, leb-false, ltb-true, ltb-false}
use Rattle.words.proofs.Tests.{split as by, true-and, and-true, true-false, never_true, eqb_yes, yes_eqb}
use Rattle.ranges.specs.Prefixes.{Prefix, prefix}
use Rattle.ranges.specs.Ranges.{shifted, covering}
use Rattle.ranges.specs.Inner.{opens, Widest}
use Rattle.ranges.proofs.PrefixLaws.{block-end, clear-before}
use Rattle.ranges.proofs.CoverLaws.{WholeField, by_whole, cover-none, cover-whole, cover-parts}

-- the lesser power has the lesser exponent
pub exponent : (i j : ℕ) → 2 ^ i ≤ 2 ^ j → i ≤ j
exponent i j h =
    by (leb i j) (λ t. leb-true _ _ t) (λ f. let l : 2 ^ j < 2 ^ i = pow-lt (leb-false _ _ f) in absurd (omega arith))

-- What the greatest prefix at a number is, in numbers: one of 2^k numbers can start there and end in time, and one of twice as many cannot.
pub record Greatest (low end k : ℕ) : Type 0 where
  pub clear : low % 2 ^ k ≡ 0
  pub fits : low + 2 ^ k ≤ end
  pub full : low % 2 ^ suc k ≡ 0 → low + 2 ^ suc k ≤ end → ⊥

pub opens-facts : (at end k : ℕ) → opens at end k ≡ true → (at % 2 ^ k ≡ 0) × (at + 2 ^ k ≤ end)
unfolding opens
opens-facts at end k e = let t = and-true (eqb (at % 2 ^ k) 0) (leb (at + 2 ^ k) end) e in (eqb_yes _ _ t.0, leb-true _ _ t.1)

pub facts-opens : (at end k : ℕ) → at % 2 ^ k ≡ 0 → at + 2 ^ k ≤ end → opens at end k ≡ true
unfolding opens
facts-opens at end k e h = true-and (yes_eqb _ _ e) (le-leb _ _ h)

pub widest-greatest : (low end k : ℕ) → Widest low end k → Greatest low end k
widest-greatest low end k w =
    let f = opens-facts low end k w.opened in
    record { clear = f.0; fits = f.1; full = λ c h. true-false (facts-opens low end (suc k) c h) w.full }

-- ---- the search for it

-- a prefix without stars can start at any number before the end
pub open_none : (at end : ℕ) → at < end → opens at end 0 ≡ true
open_none at end h = facts-opens at end 0 (omega arith) (omega arith)

-- one with more stars than the field has bits cannot
pub open-past : (b at end : ℕ) → end ≤ 2 ^ b → opens at end (suc b) ≡ false
open-past b at end h =
    let p : 2 ^ suc b ≡ 2 ^ b * 2 = pow-suc 2 b in
    let s : 0 < 2 ^ b = pow_pos b in
    never_true (λ t. omega (arith, (opens-facts at end (suc b) t).1))

-- as many as the field has bits
pub widest-last : (b at end k : ℕ) → k ≡ b → end ≤ 2 ^ b → opens at end k ≡ true → Widest at end b
widest-last b at end k e h o = record { opened = ap (opens at end) (sym e) ∙ o; full = open-past b at end h }

-- ---- a range that is the whole field

whole-stars : (b k : ℕ) → Greatest 0 (2 ^ b) k → k ≡ b
whole-stars b k g =
    let small : 2 ^ k ≤ 2 ^ b = omega (arith, g.fits) in
    let le : k ≤ b = exponent k b small in
    by (ltb k b)
    (λ t. let l : suc k ≤ b = ltb-true _ _ t in
    let r : 2 ^ suc k ≤ 2 ^ b = pow_mono l in
    absurd (g.full (mod-eq_of_lt (pow_pos (suc k))) (omega arith)))
    (λ f. let l : b ≤ k = ltb-false _ _ f in omega arith)

step-whole : (b low end k : ℕ) → WholeField b low end → Greatest low end k → covering b low end ≡ prefix k low ∷ covering b (low + 2 ^ k) end
step-whole b low end k w g =
    let h : Greatest 0 (2 ^ b) k = subst (λ (x : ℕ). Greatest x (2 ^ b) k) w.0 (subst (λ (x : ℕ). Greatest low x k) w.1 g) in
    let e : k ≡ b = whole-stars b k h in
    let n : end ≤ low + 2 ^ k = omega (arith, w.0, w.1, ap (λ (x : ℕ). 2 ^ x) e) in
    ap₂ (covering b) w.0 w.1 ∙ cover-whole b ∙ ap₂ (λ (x y : ℕ). prefix x y ∷ []) (sym e) (sym w.0) ∙ ap (λ (xs : List Prefix). prefix k low ∷ xs) (sym (cover-none b (low + 2 ^ k) end n))

-- ---- a range of two halves

-- a prefix that is less than the field lies in one half
half-stars : (b low end k : ℕ) → (WholeField (suc b) low end → ⊥) → end ≤ 2 ^ suc b → Greatest low end k → k ≤ b
half-stars b low end k w h g =
    by (leb k b) (λ t. leb-true _ _ t)
    (λ f. let l : 2 ^ suc b ≤ 2 ^ k = pow_mono (leb-false _ _ f) in let s = g.fits in absurd (w (omega arith, omega arith)))

-- it lies in the left half
greatest-left : (b low end k : ℕ) → k ≤ b → low < 2 ^ b → Greatest low end k → Greatest low (min end (2 ^ b)) k
greatest-left b low end k s l g =
    let e : low + 2 ^ k ≤ 2 ^ b = block-end b k low s l g.clear in
    record { clear = g.clear; fits = omega (arith, e, g.fits); full = λ c h. g.full c (omega (arith, h)) }

step_left : (b low end k : ℕ) → (WholeField (suc b) low end → ⊥) → k ≤ b → low < 2 ^ b → Greatest low end k
    → covering b low (min end (2 ^ b)) ≡ prefix k low ∷ covering b (low + 2 ^ k) (min end (2 ^ b))
    → covering (suc b) low end ≡ prefix k low ∷ covering (suc b) (low + 2 ^ k) end
step_left b low end k w s l g ih =
    let e : low + 2 ^ k ≤ 2 ^ b = block-end b k low s l g.clear in
    let z : low - 2 ^ b ≡ low + 2 ^ k - 2 ^ b = omega arith in
    let some : 0 < 2 ^ k = pow_pos k in
    cover-parts b low end w
    ∙ ap₂ (λ (xs : List Prefix) (x : ℕ). xs ++ map (shifted (2 ^ b)) (covering b x (end - 2 ^ b))) ih z
    ∙ ap (λ (xs : List Prefix). prefix k low ∷ xs) (sym (cover-parts b (low + 2 ^ k) end (λ v. let u = v.0 in omega arith)))

-- or in the right half
greatest-right : (b low end k : ℕ) → end ≤ 2 ^ suc b → k ≤ b → 2 ^ b ≤ low → Greatest low end k → Greatest (low - 2 ^ b) (end - 2 ^ b) k
greatest-right b low end k h s l g =
    record {
      clear = clear-before b k low s l ∙ g.clear;
      fits = omega (arith, g.fits);
      full = λ c r.
          let small : 2 ^ suc k ≤ 2 ^ b = omega (arith, r, h, pow-suc 2 b) in
          g.full (sym (clear-before b (suc k) low (exponent (suc k) b small) l) ∙ c) (omega (arith, r, pow_pos (suc k)));
    }

step_right : (b low end k : ℕ) → (WholeField (suc b) low end → ⊥) → 2 ^ b ≤ low
    → covering b (low - 2 ^ b) (end - 2 ^ b) ≡ prefix k (low - 2 ^ b) ∷ covering b (low - 2 ^ b + 2 ^ k) (end - 2 ^ b)
    → covering (suc b) low end ≡ prefix k low ∷ covering (suc b) (low + 2 ^ k) end
step_right b low end k w l ih =
    let some : 0 < 2 ^ b = pow_pos b in
    let n : min end (2 ^ b) ≤ low = omega arith in
    let n' : min end (2 ^ b) ≤ low + 2 ^ k = omega arith in
    let f : low - 2 ^ b + 2 ^ b ≡ low = omega arith in
    let z : low - 2 ^ b + 2 ^ k ≡ low + 2 ^ k - 2 ^ b = omega arith in
    cover-parts b low end w
    ∙ ap₂ (λ (xs ys : List Prefix). xs ++ map (shifted (2 ^ b)) ys) (cover-none b low (min end (2 ^ b)) n) ih
    ∙ ap₂ (λ (x y : ℕ). prefix k x ∷ map (shifted (2 ^ b)) (covering b y (end - 2 ^ b))) f z
    ∙ ap (λ (xs : List Prefix). prefix k low ∷ (xs ++ map (shifted (2 ^ b)) (covering b (low + 2 ^ k - 2 ^ b) (end - 2 ^ b)))) (sym (cover-none b (low + 2 ^ k) (min end (2 ^ b)) n'))
    ∙ ap (λ (xs : List Prefix). prefix k low ∷ xs) (sym (cover-parts b (low + 2 ^ k) end (λ v. let u = v.0 in omega arith)))

-- ---- every range

no_bits : (low end k : ℕ) → end ≤ 1 → Greatest low end k → WholeField 0 low end
no_bits low end k h g = let s : 0 < 2 ^ k = pow_pos k in let f = g.fits in (omega arith, omega arith)

pub greatest-first : (b low end k : ℕ) → end ≤ 2 ^ b → Greatest low end k → covering b low end ≡ prefix k low ∷ covering b (low + 2 ^ k) end
greatest-first zero low end k h g = step-whole zero low end k (no_bits low end k h g) g
greatest-first (suc b) low end k h g =
    by_whole (suc b) low end (λ w. step-whole (suc b) low end k w g)
    (λ w.
    let s : k ≤ b = half-stars b low end k w h g in
    let p : 2 ^ suc b ≡ 2 ^ b * 2 = pow-suc 2 b in
    by (ltb low (2 ^ b))
    (λ t. let l : low < 2 ^ b = ltb-true _ _ t in
    step_left b low end k w s l g (greatest-first b low (min end (2 ^ b)) k (omega arith) (greatest-left b low end k s l g)))
    (λ t. let l : 2 ^ b ≤ low = ltb-false _ _ t in
    step_right b low end k w l (greatest-first b (low - 2 ^ b) (end - 2 ^ b) k (omega arith) (greatest-right b low end k h s l g))))

-- ---- the same of the prefix that the code found

pub widest_fits : (b at end k : ℕ) → end ≤ 2 ^ b → Widest at end k → (k ≤ b) × (at + 2 ^ k ≤ end)
widest_fits b at end k h w = let f = (opens-facts at end k w.opened).1 in (exponent k b (omega arith), f)

pub widest-first : (b at end k : ℕ) → end ≤ 2 ^ b → Widest at end k → covering b at end ≡ prefix k at ∷ covering b (at + 2 ^ k) end
widest-first b at end k h w = greatest-first b at end k h (widest-greatest at end k w)

pub widest-count : (b at end k : ℕ) → end ≤ 2 ^ b → Widest at end k → length (covering b at end) ≡ suc (length (covering b (at + 2 ^ k) end))
widest-count b at end k h w = ap length (widest-first b at end k h w)
