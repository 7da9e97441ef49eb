-- Laws of the prefixes of a range: they are prefixes of the field, cover each number of the range once and no other, and rise.
use mathlib.Core.Path.{◌≡◌, ap, ap₂, ◌∙◌}
use mathlib.Core.List.{List, map}
use mathlib.Core.Bool.{true, false}
use Prim.Native.Nat.{ℕ, suc, ◌+◌, ◌-◌, ◌^◌, ◌≤◌, ◌<◌, min}
use native.Mathlib.Omega.{arith}
use native.Mathlib.Nat.{pow-suc, mod-eq_of_lt, add-zero, zero-add}
use lib.Dec.{ltb}
use borrow.Author.Tests.{ltb-true, ltb-false}
use Rattle.words.proofs.Tests.{split as by}
use lib.Pow.{pow_pos}
use Rattle.rules.specs.Lists.{All, Pairs}
use Rattle.rules.proofs.EntryLaws.{all_map, all_append, all_after, pairs-append, pairs-after}
use Rattle.ranges.specs.Prefixes.{Prefix, PrefixIn, Before}
use Rattle.ranges.specs.Ranges.{shifted, covering}
use Rattle.ranges.proofs.PrefixLaws.{inside, inside-left, inside-right, inside-late, held, held-append, held_below, held-above, clear-after}
use Rattle.ranges.proofs.CoverLaws.{Fact, None, OfWhole, OfParts, every-range}

-- ---- they are prefixes of the field

abbrev Fitting : Fact
Fitting b low end ps = All (PrefixIn b) ps

-- a prefix of the left half, and one of the right half, is a prefix of the field
fits-left : (b : ℕ) (p : Prefix) → PrefixIn b p → PrefixIn (suc b) p
fits-left b p v =
    let f : p.stars ≤ b = v.fits in
    let w : p.first < 2 ^ b = v.within in
    record { fits = omega arith; within = omega (arith, pow-suc 2 b); clear = v.clear }

fits-right : (b : ℕ) (p : Prefix) → PrefixIn b p → PrefixIn (suc b) (shifted (2 ^ b) p)
fits-right b p v =
    let f : p.stars ≤ b = v.fits in
    let w : p.first < 2 ^ b = v.within in
    record { fits = omega arith; within = omega (arith, pow-suc 2 b); clear = clear-after b p.stars p.first f ∙ v.clear }

pub range-fits : (b low end : ℕ) → end ≤ 2 ^ b → All (PrefixIn b) (covering b low end)
range-fits =
    every-range Fitting (λ b low end h. tt)
    (λ b. (record { fits = omega arith; within = pow_pos b; clear = mod-eq_of_lt (pow_pos b) }, tt))
    (λ b low end left right w l h p q. all_append (PrefixIn (suc b)) left _ (all_map _ _ (fits-left b) left p) (all_after (shifted (2 ^ b)) (PrefixIn b) _ (fits-right b) right q))

-- ---- each number of the range once, and no other

abbrev Once : Fact
Once b low end ps = (n : ℕ) → held ps n ≡ inside low end n

once-none : None Once
unfolding held
once-none b low end h n = omega arith

once-whole : OfWhole Once
unfolding held
once-whole b n = let e : 0 + 2 ^ b ≡ 2 ^ b = omega arith in add-zero _ ∙ ap (λ (x : ℕ). inside 0 x n) e

once-parts : OfParts Once
once-parts b low end left right w l h p q n = held-append n left _ ∙ by (ltb n (2 ^ b)) below above
  where
    below : ltb n (2 ^ b) ≡ true → held left n + held (map (shifted (2 ^ b)) right) n ≡ inside low end n
    below t =
        let s : n < 2 ^ b = ltb-true _ _ t in
        ap₂ (λ (x y : ℕ). x + y) (p n ∙ inside-left low end (2 ^ b) n s) (held_below (2 ^ b) n right s) ∙ add-zero _

    above : ltb n (2 ^ b) ≡ false → held left n + held (map (shifted (2 ^ b)) right) n ≡ inside low end n
    above f =
        let s : 2 ^ b ≤ n = ltb-false _ _ f in
        let e : n - 2 ^ b + 2 ^ b ≡ n = omega arith in
        ap₂ (λ (x y : ℕ). x + y) (p n ∙ inside-late low (min end (2 ^ b)) n (omega arith)) (held-above (2 ^ b) n right s ∙ q (n - 2 ^ b) ∙ inside-right low end (2 ^ b) (n - 2 ^ b) ∙ ap (λ (x : ℕ). inside low end x) e)
        ∙ zero-add _

pub range-once : (b low end : ℕ) → end ≤ 2 ^ b → (n : ℕ) → held (covering b low end) n ≡ inside low end n
range-once = every-range Once once-none once-whole once-parts

-- ---- they rise

-- a prefix lies within a range
abbrev Within : (low end : ℕ) → Prefix → Type 0
Within low end p = (low ≤ p.first) × (p.first + 2 ^ p.stars ≤ end)

abbrev Rising : Fact
Rising b low end ps = Pairs Before ps × All (Within low end) ps

-- moved up, prefixes come one after the other as they did
pub before-moved : (m : ℕ) (p q : Prefix) → Before p q → Before (shifted m p) (shifted m q)
before-moved m p q h = omega arith

pub before-still : (m : ℕ) (p q : Prefix) → Before (shifted m p) (shifted m q) → Before p q
before-still m p q h = omega arith

-- prefixes below m come before prefixes from m on
below-above : (m : ℕ) (xs ys : List Prefix) → All (λ (p : Prefix). p.first + 2 ^ p.stars ≤ m) xs → All (λ (p : Prefix). m ≤ p.first) ys
    → All (λ (x : Prefix). All (Before x) ys) xs
below-above m xs ys a b =
    all_map _ (λ (x : Prefix). All (Before x) ys) (λ x l. all_map (λ (y : Prefix). m ≤ y.first) (Before x) (λ y h. omega arith) ys b) xs a

rising_whole : OfWhole Rising
rising_whole b = ((tt, tt), ((omega arith, omega arith), tt))

rising-parts : OfParts Rising
rising-parts b low end left right w l h p q = (
  pairs-append Before left moved p.0 (pairs-after (shifted (2 ^ b)) Before Before (before-moved (2 ^ b)) right q.0)
      (below-above (2 ^ b) left moved (all_map _ _ (λ x s. omega (arith, s.1)) left p.1) (all_map _ _ (λ x s. s.0) moved up)),
  all_append _ left moved (all_map _ _ (λ x s. (s.0, omega (arith, s.1))) left p.1) (all_map _ _ (λ x s. s.1) moved up),
)
  where
    moved : List Prefix
    moved = map (shifted (2 ^ b)) right

    up : All (λ (x : Prefix). (2 ^ b ≤ x.first) × Within low end x) moved
    up = all_after (shifted (2 ^ b)) (Within (low - 2 ^ b) (end - 2 ^ b)) _ (λ x s. let t : 0 < 2 ^ x.stars = pow_pos x.stars in (omega arith, (omega (arith, s.0), omega (arith, s.1, t)))) right q.1

pub range-rising : (b low end : ℕ) → end ≤ 2 ^ b → Pairs Before (covering b low end)
range-rising b low end h = (every-range Rising (λ b low end h. (tt, tt)) rising_whole rising-parts b low end h).0
