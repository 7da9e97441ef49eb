-- Laws of the checks and of the two public calls: each refusal in turn, and from what the inner functions leave to what is promised.
use mathlib.Core.Path.{◌≡◌, sym, ◌∙◌}
use mathlib.Core.Logic.{◌↔◌}
use mathlib.Core.List.{List, []}
use mathlib.Core.Bool.{◌&&◌}
use Prim.Native.Nat.{ℕ, ◌+◌, ◌^◌, ◌≤◌, ◌<◌}
use native.Mathlib.Omega.{arith}
use lib.Dec.{leb, ltb}
use lib.ListN.{length}
use lib.Pow.{pow_mono}
use borrow.Author.Tests.{le-leb, lt-ltb, leb-true, ltb-true}
use Rattle.words.proofs.Tests.{true-and, and-true, yes_eqb, eqb_yes}
use Rattle.rules.specs.Replies.{Reply, Refuses, passed}
use Rattle.rules.proofs.ReplyLaws.{Bare, bare-first, bare-need, bare-then, need-yes, need-then, need-passed, then_next, then-second}
use Rattle.rules.proofs.CheckLaws.{room-yes, room-no, room-exactly}
use Rattle.ranges.specs.Ranges.{range_prefixes}
use Rattle.ranges.specs.Calls.{widest_field, field_check, bounds_check, check_range, same_length_check, prefixes_check}

-- ---- the field and the range

pub field-yes : (b : ℕ) → 1 ≤ b → b ≤ widest_field → field_check b ≡ passed
unfolding field_check
field-yes b l h = need-yes _ 1 0 0 (true-and (le-leb 1 b l) (le-leb b widest_field h))

pub range-yes : (b low high : ℕ) → low ≤ high → high < 2 ^ b → bounds_check b low high ≡ passed
unfolding bounds_check
range-yes b low high l h = need-yes _ 20 0 0 (true-and (le-leb low high l) (lt-ltb high (2 ^ b) h))

-- ---- both, one after the other

pub check-range : (b low high : ℕ) {a : Reply} → field_check b ≡ passed → bounds_check b low high ≡ a → check_range b low high ≡ a
unfolding check_range
check-range b low high e f = then_next _ _ e ∙ f

-- checks give no values
pub bare-range : (b low high : ℕ) → Bare (check_range b low high)
unfolding check_range bounds_check
bare-range b low high = bare-then (field_check b) (bounds_check b low high) (bare-need (leb low high && ltb high (2 ^ b)) 20 0 0)

-- What a range that passes its checks is.
pub record GoodRange (b low high : ℕ) : Type 0 where
  pub some : 1 ≤ b
  pub few : b ≤ widest_field
  pub upward : low ≤ high
  pub within : high < 2 ^ b

pub ranged : (b low high : ℕ) → check_range b low high ≡ passed → GoodRange b low high
unfolding check_range field_check bounds_check
ranged b low high e =
    let f = and-true (leb 1 b) (leb b widest_field) (need-then _ 1 0 0 _ [] e) in
    let r = and-true (leb low high) (ltb high (2 ^ b)) (need-passed _ 20 0 0 (then-second (field_check b) _ [] e)) in
    record { some = leb-true _ _ f.0; few = leb-true _ _ f.1; upward = leb-true _ _ r.0; within = ltb-true _ _ r.1 }

pub ranged-passes : (b low high : ℕ) → GoodRange b low high → check_range b low high ≡ passed
ranged-passes b low high r = check-range b low high (field-yes b r.some r.few) (range-yes b low high r.upward r.within)

-- Exactly the ranges of a field of 1 to 16 bits pass.
pub ranged-exactly : (b low high : ℕ) → (check_range b low high ≡ passed) ↔ GoodRange b low high
ranged-exactly b low high = (ranged b low high, ranged-passes b low high)

-- the number past the range is at most the size of the field
pub ranged-end : (b low high : ℕ) → GoodRange b low high → high + 1 ≤ 2 ^ b
ranged-end b low high r = omega (arith, r.within)

-- and no field is greater than the greatest
pub ranged-next : (b low high : ℕ) → GoodRange b low high → high + 1 ≤ 2 ^ widest_field
ranged-next b low high r = let most : 2 ^ b ≤ 2 ^ widest_field = pow_mono r.few in omega (arith, most, r.within)

-- What the inner functions ask of a range, of one that passed.
pub range_end : (b low high : ℕ) → passed ≡ check_range b low high → (b ≤ widest_field) × (high + 1 ≤ 2 ^ b) × (high + 1 ≤ 2 ^ widest_field)
range_end b low high e = let r = ranged b low high (sym e) in (r.few, ranged-end b low high r, ranged-next b low high r)

-- ---- the prefixes

pub results-yes : (cs vs : List ℕ) → length cs ≡ length vs → same_length_check cs vs ≡ passed
unfolding same_length_check
results-yes cs vs e = need-yes _ 2 0 0 (yes_eqb _ _ e)

module _ (b low high : ℕ) (cs vs : List ℕ) where
  -- each check of the slices, after a range that passed
  pub check-room : check_range b low high ≡ passed → length cs ≡ length vs → length cs < length (range_prefixes b low high)
      → prefixes_check b low high cs vs ≡ Refuses 7 0 0
  unfolding prefixes_check
  check-room e s h = then_next _ _ e ∙ then_next _ _ (results-yes cs vs s) ∙ room-no _ _ h

  pub check-prefixes : check_range b low high ≡ passed → length cs ≡ length vs → length (range_prefixes b low high) ≤ length cs
      → prefixes_check b low high cs vs ≡ passed
  unfolding prefixes_check
  check-prefixes e s r = then_next _ _ e ∙ then_next _ _ (results-yes cs vs s) ∙ room-yes _ _ r

  -- What a range and slices that pass these checks are.
  pub prefixes-facts : prefixes_check b low high cs vs ≡ passed
      → GoodRange b low high × (length cs ≡ length vs) × (length (range_prefixes b low high) ≤ length cs)
  unfolding prefixes_check same_length_check
  prefixes-facts e =
      let r = then-second (check_range b low high) _ [] e in (
        ranged b low high (bare-first (check_range b low high) _ (bare-range b low high) [] e),
        eqb_yes _ _ (need-then _ 2 0 0 _ [] r),
        (room-exactly _ _).0 (then-second (same_length_check cs vs) _ [] r),
      )

-- What the inner function asks of them.
pub prefixes_end : (b low high : ℕ) (cs vs : List ℕ) → passed ≡ prefixes_check b low high cs vs
    → (b ≤ widest_field) × (high + 1 ≤ 2 ^ b) × (high + 1 ≤ 2 ^ widest_field) × (length (range_prefixes b low high) ≤ length cs) × (length (range_prefixes b low high) ≤ length vs)
prefixes_end b low high cs vs e =
    let f = prefixes-facts b low high cs vs (sym e) in
    (f.0.few, ranged-end b low high f.0, ranged-next b low high f.0, f.2, omega (arith, f.1, f.2))
