-- Laws of the prefixes of a range over the number of bits: the three ways in which a range is covered, and that what holds in each of
-- them holds of every range.
use mathlib.Core.Path.{◌≡◌, refl, sym, ap, ap₂, ◌∙◌, subst}
use mathlib.Core.List.{List, [], ◌∷◌, ◌++◌, map}
use mathlib.Core.Bool.{Bool, true, false, ◌&&◌}
use Prim.Native.Nat.{ℕ, zero, suc, ◌+◌, ◌-◌, ◌*◌, ◌^◌, ◌≤◌, ◌<◌, min}
use native.Mathlib.Omega.{arith}
use native.Mathlib.Nat.{pow-suc}
use lib.Pow.{pow_pos}
use lib.ListN.{length, length-append, length-map}
use lib.Dec.{eqb, leb}
use borrow.Author.Tests.{le-leb, lt-leb, leb-true, leb-false}
use Rattle.words.proofs.Tests.{split as by, yes_eqb, true-and, and-true, eqb_yes, never_true, true-false}
use Rattle.ranges.specs.Prefixes.{Prefix, prefix}
use Rattle.ranges.specs.Ranges.{shifted, prefixes_by, covering}

-- A range is all of the field.
abbrev pub WholeField : (bits low end : ℕ) → Type 0
WholeField b low end = (low ≡ 0) × (end ≡ 2 ^ b)

-- Either it is, or it is not.
pub by_whole : {C : Type 0} (b low end : ℕ) → (WholeField b low end → C) → ((WholeField b low end → ⊥) → C) → C
by_whole b low end f g =
    by (eqb low 0 && eqb end (2 ^ b))
    (λ t. let w = and-true (eqb low 0) (eqb end (2 ^ b)) t in f (eqb_yes _ _ w.0, eqb_yes _ _ w.1))
    (λ t. g (λ w. true-false (true-and (yes_eqb _ _ w.0) (yes_eqb _ _ w.1)) t))

-- the prefixes of the left half, and behind them those of the right half
abbrev pub parts : (bits low end : ℕ) → List Prefix
parts b low end = covering b low (min end (2 ^ b)) ++ map (shifted (2 ^ b)) (covering b (low - 2 ^ b) (end - 2 ^ b))

-- as many as both have together
pub parts-length : (m : ℕ) (left right : List Prefix) → length (left ++ map (shifted m) right) ≡ length left + length right
parts-length m left right = length-append left (map (shifted m) right) ∙ ap (λ (x : ℕ). length left + x) (length-map right (shifted m))

-- ---- the three ways

-- no number: no prefix
pub cover-none : (b low end : ℕ) → end ≤ low → covering b low end ≡ []
unfolding covering
cover-none zero low end h = ap (λ (t : Bool). prefixes_by t true (prefix 0 0) []) (le-leb _ _ h)
cover-none (suc b) low end h =
    ap (λ (t : Bool). prefixes_by t (eqb low 0 && eqb end (2 ^ suc b)) (prefix (suc b) 0) (parts b low end)) (le-leb _ _ h)

-- the whole field: one prefix of stars
pub cover-whole : (b : ℕ) → covering b 0 (2 ^ b) ≡ prefix b 0 ∷ []
unfolding covering
cover-whole zero = refl
cover-whole (suc b) =
    ap₂ (λ (t u : Bool). prefixes_by t u (prefix (suc b) 0) (parts b 0 (2 ^ suc b))) (lt-leb _ _ (pow_pos (suc b)))
    (true-and (yes_eqb 0 0 refl) (yes_eqb (2 ^ suc b) (2 ^ suc b) refl))

-- else the two halves
pub cover-parts : (b low end : ℕ) → (WholeField (suc b) low end → ⊥) → covering (suc b) low end ≡ parts b low end
unfolding covering
cover-parts b low end h = by (leb end low) none some
  where
    none : leb end low ≡ true → covering (suc b) low end ≡ parts b low end
    none e =
        let l : end ≤ low = leb-true _ _ e in
        cover-none (suc b) low end l
        ∙ sym (ap₂ (λ (xs ys : List Prefix). xs ++ map (shifted (2 ^ b)) ys) (cover-none b low (min end (2 ^ b)) (omega arith)) (cover-none b (low - 2 ^ b) (end - 2 ^ b) (omega arith)))

    some : leb end low ≡ false → covering (suc b) low end ≡ parts b low end
    some e =
        ap₂ (λ (t u : Bool). prefixes_by t u (prefix (suc b) 0) (parts b low end)) e
        (never_true (λ t. let w = and-true (eqb low 0) (eqb end (2 ^ suc b)) t in h (eqb_yes _ _ w.0, eqb_yes _ _ w.1)))

-- ---- what holds in each of the three ways

-- A fact of a range in a field of so many bits and its prefixes.
abbrev pub Fact : Type 1
Fact = (bits low end : ℕ) → List Prefix → Type 0

-- it holds where there is no number
abbrev pub None : Fact → Type 0
None P = (b low end : ℕ) → end ≤ low → P b low end []

-- of the whole field
abbrev pub OfWhole : Fact → Type 0
OfWhole P = (b : ℕ) → P b 0 (2 ^ b) (prefix b 0 ∷ [])

-- and of a range whose halves it holds of
abbrev pub OfParts : Fact → Type 0
OfParts P = (b low end : ℕ) (left right : List Prefix) → (WholeField (suc b) low end → ⊥) → low < end → end ≤ 2 ^ suc b
    → P b low (min end (2 ^ b)) left → P b (low - 2 ^ b) (end - 2 ^ b) right → P (suc b) low end (left ++ map (shifted (2 ^ b)) right)

module _ (P : Fact) (none : None P) (whole : OfWhole P) (both : OfParts P) where
  of_none : (b low end : ℕ) → end ≤ low → P b low end (covering b low end)
  of_none b low end h = subst (P b low end) (sym (cover-none b low end h)) (none b low end h)

  of-whole : (b low end : ℕ) → WholeField b low end → P b low end (covering b low end)
  of-whole b low end w = rw (w.0, w.1, cover-whole b) (whole b)

  -- a range that is not the whole field, from its halves
  of_parts : (b low end : ℕ) → (WholeField (suc b) low end → ⊥) → low < end → end ≤ 2 ^ suc b
      → P b low (min end (2 ^ b)) (covering b low (min end (2 ^ b))) → P b (low - 2 ^ b) (end - 2 ^ b) (covering b (low - 2 ^ b) (end - 2 ^ b))
      → P (suc b) low end (covering (suc b) low end)
  of_parts b low end w l h p q = subst (P (suc b) low end) (sym (cover-parts b low end w)) (both b low end _ _ w l h p q)

  of_some : (b low end : ℕ) → low < end → end ≤ 2 ^ suc b
      → P b low (min end (2 ^ b)) (covering b low (min end (2 ^ b))) → P b (low - 2 ^ b) (end - 2 ^ b) (covering b (low - 2 ^ b) (end - 2 ^ b))
      → P (suc b) low end (covering (suc b) low end)
  of_some b low end l h p q = by_whole (suc b) low end (of-whole (suc b) low end) (λ w. of_parts b low end w l h p q)

  pub every-range : (b low end : ℕ) → end ≤ 2 ^ b → P b low end (covering b low end)
  every-range zero low end h =
      by (leb end low) (λ e. of_none zero low end (leb-true _ _ e))
      (λ e. let l : low < end = leb-false _ _ e in of-whole zero low end (omega arith, omega arith))
  every-range (suc b) low end h =
      let e : 2 ^ suc b ≡ 2 ^ b * 2 = pow-suc 2 b in
      let p = every-range b low (min end (2 ^ b)) (omega arith) in
      let q = every-range b (low - 2 ^ b) (end - 2 ^ b) (omega arith) in
      by (leb end low) (λ t. of_none (suc b) low end (leb-true _ _ t)) (λ f. of_some b low end (leb-false _ _ f) h p q)
