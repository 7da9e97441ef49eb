-- How many prefixes a range takes at most, and that one takes as many.
use mathlib.Core.Path.{◌≡◌, refl, ap, ap₂, ◌∙◌}
use mathlib.Core.List.{List, ◌++◌, map}
use Prim.Native.Nat.{ℕ, zero, suc, ◌+◌, ◌-◌, ◌*◌, ◌^◌, ◌≤◌, ◌<◌, min, max}
use native.Mathlib.Omega.{arith}
use native.Mathlib.Nat.{pow-suc}
use lib.Dec.{leb}
use lib.Pow.{pow_pos}
use lib.ListN.{length}
use borrow.Author.Tests.{leb-true, leb-false}
use Rattle.words.proofs.Tests.{split as by}
use Rattle.ranges.specs.Prefixes.{Prefix}
use Rattle.ranges.specs.Ranges.{shifted, covering}
use Rattle.ranges.proofs.CoverLaws.{WholeField, parts-length, cover-none, cover-whole, cover-parts, None, OfWhole, OfParts, every-range}

-- How many prefixes there are at most: one where the range is the whole field, as many as there are bits where it starts or ends with
-- the field, and else 2 * bits - 2; but never less than one.
record Few (b low end : ℕ) (ps : List Prefix) : Type 0 where
  none : end ≤ low → length ps ≡ 0
  whole : WholeField b low end → length ps ≤ 1
  start : low ≡ 0 → length ps ≤ max 1 b
  stop : end ≡ 2 ^ b → length ps ≤ max 1 b
  most : length ps ≤ max 1 (b * 2 - 2)

few-none : None Few
few-none b low end h =
    record { none = λ l. refl; whole = λ w. omega arith; start = λ e. omega arith; stop = λ e. omega arith; most = omega arith }

few-whole : OfWhole Few
few-whole b =
    record {
      none = λ l. let p : 0 < 2 ^ b = pow_pos b in absurd (omega arith);
      whole = λ w. omega arith;
      start = λ e. omega arith;
      stop = λ e. omega arith;
      most = omega arith;
    }

-- a field of one bit has no range in both halves but the whole
more-bits : (b low end : ℕ) → (WholeField (suc b) low end → ⊥) → end ≤ 2 ^ suc b → low < 2 ^ b → 2 ^ b < end → 0 < b
more-bits zero low end w h s t = absurd (w (omega arith, omega arith))
more-bits (suc b) low end w h s t = omega arith

module _ (b low end : ℕ) (left right : List Prefix) (w : WholeField (suc b) low end → ⊥) (l : low < end) (h : end ≤ 2 ^ suc b)
    (p : Few b low (min end (2 ^ b)) left) (q : Few b (low - 2 ^ b) (end - 2 ^ b) right) where
  some : 0 < 2 ^ b
  some = pow_pos b

  twice : 2 ^ suc b ≡ 2 ^ b * 2
  twice = pow-suc 2 b

  abbrev both : List Prefix
  both = left ++ map (shifted (2 ^ b)) right

  size : length both ≡ length left + length right
  size = parts-length (2 ^ b) left right

  few-left : end ≤ 2 ^ b → Few (suc b) low end both
  few-left s =
      let r : length right ≡ 0 = q.none (omega arith) in
      let e : min end (2 ^ b) ≡ end = omega arith in
      record {
        none = λ n. absurd (omega arith);
        whole = λ v. absurd (w v);
        start = λ z. omega (arith, size, r, p.start z);
        stop = λ z. absurd (omega (arith, twice, some));
        most = omega (arith, size, r, p.most);
      }

  few-right : 2 ^ b ≤ low → Few (suc b) low end both
  few-right s =
      let r : length left ≡ 0 = p.none (omega arith) in
      record {
        none = λ n. absurd (omega arith);
        whole = λ v. absurd (w v);
        start = λ z. absurd (omega (arith, some));
        stop = λ z. omega (arith, size, r, q.stop (omega (arith, twice)));
        most = omega (arith, size, r, q.most);
      }

  few-both : low < 2 ^ b → 2 ^ b < end → Few (suc b) low end both
  few-both s t =
      let m : 0 < b = more-bits b low end w h s t in
      let a : length left ≤ b = omega (arith, p.stop (omega arith), m) in
      let z : length right ≤ b = omega (arith, q.start (omega arith), m) in
      record {
        none = λ n. absurd (omega arith);
        whole = λ v. absurd (w v);
        start = λ e. omega (arith, size, z, m, p.whole (e, omega arith));
        stop = λ e. omega (arith, size, a, m, q.whole (omega arith, omega (arith, twice)));
        most = omega (arith, size, a, z, m);
      }

few-parts : OfParts Few
few-parts b low end left right w l h p q =
    by (leb end (2 ^ b)) (λ t. few-left b low end left right w l h p q (leb-true _ _ t))
    (λ f. by (leb (2 ^ b) low) (λ t. few-right b low end left right w l h p q (leb-true _ _ t))
    (λ g. few-both b low end left right w l h p q (leb-false _ _ g) (leb-false _ _ f)))

pub range-few : (b low end : ℕ) → end ≤ 2 ^ b → length (covering b low end) ≤ max 1 (b * 2 - 2)
range-few b low end h = (every-range Few few-none few-whole few-parts b low end h).most

-- ---- one takes as many

two-parts : (b low end : ℕ) → (WholeField (suc b) low end → ⊥)
    → length (covering (suc b) low end) ≡ length (covering b low (min end (2 ^ b))) + length (covering b (low - 2 ^ b) (end - 2 ^ b))
two-parts b low end w = ap length (cover-parts b low end w) ∙ parts-length (2 ^ b) (covering b low (min end (2 ^ b))) (covering b (low - 2 ^ b) (end - 2 ^ b))

-- all numbers but the first take a prefix for each bit
all-but-first : (b : ℕ) → length (covering b 1 (2 ^ b)) ≡ b
all-but-first zero = ap length (cover-none 0 1 1 (omega arith))
all-but-first (suc b) =
    let t : 2 ^ suc b ≡ 2 ^ b * 2 = pow-suc 2 b in
    let s : 0 < 2 ^ b = pow_pos b in
    let l : min (2 ^ suc b) (2 ^ b) ≡ 2 ^ b = omega arith in
    let f : 1 - 2 ^ b ≡ 0 = omega arith in
    let e : 2 ^ suc b - 2 ^ b ≡ 2 ^ b = omega arith in
    two-parts b 1 (2 ^ suc b) (λ w. let z = w.0 in omega arith)
    ∙ ap₂ (λ (x y : ℕ). x + y) (ap (λ (x : ℕ). length (covering b 1 x)) l ∙ all-but-first b) (ap length (ap₂ (covering b) f e ∙ cover-whole b))
    ∙ omega arith

-- and so do all but the last
all_but_last : (b : ℕ) → length (covering b 0 (2 ^ b - 1)) ≡ b
all_but_last zero = ap length (cover-none 0 0 0 (omega arith))
all_but_last (suc b) =
    let t : 2 ^ suc b ≡ 2 ^ b * 2 = pow-suc 2 b in
    let s : 0 < 2 ^ b = pow_pos b in
    let l : min (2 ^ suc b - 1) (2 ^ b) ≡ 2 ^ b = omega arith in
    let f : 0 - 2 ^ b ≡ 0 = omega arith in
    let e : 2 ^ suc b - 1 - 2 ^ b ≡ 2 ^ b - 1 = omega arith in
    two-parts b 0 (2 ^ suc b - 1) (λ w. let z = w.1 in omega arith)
    ∙ ap₂ (λ (x y : ℕ). x + y) (ap length (ap (covering b 0) l ∙ cover-whole b)) (ap length (ap₂ (covering b) f e) ∙ all_but_last b)
    ∙ omega arith

-- All numbers of a field but the first and the last take 2 * bits - 2, so no smaller room is enough for every range.
pub all-but-both : (b : ℕ) → length (covering (suc b) 1 (2 ^ suc b - 1)) ≡ suc b * 2 - 2
all-but-both b =
    let t : 2 ^ suc b ≡ 2 ^ b * 2 = pow-suc 2 b in
    let s : 0 < 2 ^ b = pow_pos b in
    let l : min (2 ^ suc b - 1) (2 ^ b) ≡ 2 ^ b = omega arith in
    let f : 1 - 2 ^ b ≡ 0 = omega arith in
    let e : 2 ^ suc b - 1 - 2 ^ b ≡ 2 ^ b - 1 = omega arith in
    two-parts b 1 (2 ^ suc b - 1) (λ w. let z = w.0 in omega arith)
    ∙ ap₂ (λ (x y : ℕ). x + y) (ap (λ (x : ℕ). length (covering b 1 x)) l ∙ all-but-first b) (ap length (ap₂ (covering b) f e) ∙ all_but_last b)
    ∙ omega arith
