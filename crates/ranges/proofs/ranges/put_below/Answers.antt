use mathlib.Core.Path.{◌≡◌, refl, ap₂}
use Prim.Native.Nat.{ℕ, ◌+◌, ◌-◌, ◌*◌, ◌≤◌, ◌<◌, ◌^◌}
use native.Mathlib.Omega.{arith}
use lib.ListN.{length}
use lib.Pow.{pow_pos, pow_mono}
use borrow.Author.Rules.{rules}
use Rattle.ranges.specs.Calls.{widest_field}
use Rattle.ranges.specs.Prefixes.{prefix, care_word}
use Rattle.ranges.specs.Ranges.{covering}
use Rattle.ranges.proofs.FewLaws.{range-few}
use Rattle.ranges.proofs.StepLaws.{widest_fits, widest-count}
use Rattle.ranges.proofs.PutLaws.{putting-none, putting-count, putting-more, putting-done}
use Rattle.ranges.proofs.ranges.put_below.Goals as goal

-- one more prefix is left to write, and they are few
left : (c : goal.After-power-size) → c.loop-at.n < length (covering c.args.bits c.args.low c.args.end)
left c = let o = c.loop-at in
    omega (arith, putting-count _ _ _ _ _ _ _ _ _ o.invariant.2, widest-count c.args.bits o.at c.args.end _ c.requires.bits_le_widest_field.1 c.stars_at.ensures)

few : (c : goal.After-power-size) → c.loop-at.n < widest_field * 2
few c = omega (arith, left c, c.requires.bits_le_widest_field.0, range-few c.args.bits c.args.low c.args.end c.requires.bits_le_widest_field.1)

-- the next prefix ends in the field
ends : (c : goal.After-power-size) → c.loop-at.at + c.power-size.result ≤ 2 ^ widest_field
ends c = let most : 2 ^ c.args.bits ≤ 2 ^ widest_field = pow_mono c.requires.bits_le_widest_field.0 in
    omega (arith, most, c.requires.bits_le_widest_field.1, c.power-size.ensures, (widest_fits _ _ _ _ c.requires.bits_le_widest_field.1 c.stars_at.ensures).1)

some : (c : goal.After-power-size) → 0 < c.power-size.result
some c = omega (arith, c.power-size.ensures, pow_pos c.stars_at.result)

-- the care word of the next prefix
words : (c : goal.After-power-size) → c.power-field.result - c.power-size.result ≡ care_word c.args.bits (prefix c.stars_at.result c.loop-at.at)
unfolding care_word
words c = ap₂ (λ (x y : ℕ). x - y) c.power-field.ensures c.power-size.ensures

pub loop-at-init : goal.loop-at-init
loop-at-init c = (refl, refl, putting-none _ _ _ _ _)

pub power-size-requires : goal.power-size-requires
power-size-requires c = omega (arith, c.requires.bits_le_widest_field.0, (widest_fits _ _ _ _ c.requires.bits_le_widest_field.1 c.stars_at.ensures).0)

pub overflow_sub-care : goal.overflow_sub-care
overflow_sub-care c = let h : 2 ^ c.stars_at.result ≤ 2 ^ c.args.bits = pow_mono (widest_fits _ _ _ _ c.requires.bits_le_widest_field.1 c.stars_at.ensures).0 in
    omega (arith, h, some c, c.power-size.ensures, c.power-field.ensures)

pub offset_bounds-care-n : goal.offset_bounds-care-n
offset_bounds-care-n c = omega (arith, few c)

pub bounds-care-n : goal.bounds-care-n
bounds-care-n c = omega (arith, left c, c.loop-at.invariant.0, c.requires.end_in_bounds.0)

pub offset_bounds-value-n : goal.offset_bounds-value-n
offset_bounds-value-n c = omega (arith, few c)

pub bounds-value-n : goal.bounds-value-n
bounds-value-n c = omega (arith, left c, c.loop-at.invariant.1, c.requires.end_in_bounds.1)

pub overflow_add-at : goal.overflow_add-at
overflow_add-at c = omega (arith, ends c)

pub overflow_add-n : goal.overflow_add-n
overflow_add-n c = omega (arith, few c)

pub loop-at-preserved : goal.loop-at-preserved
loop-at-preserved c = let o = c.loop-at in (
  search rules,
  search rules,
  putting-more _ _ _ _ _ _ _ _ _ o.invariant.2 _ _ _ c.requires.bits_le_widest_field.1 c.stars_at.ensures c.power-size.ensures (words c) (omega (arith, left c, c.requires.end_in_bounds.0)) (omega (arith, left c, c.requires.end_in_bounds.1)),
)

pub returns : goal.returns
returns c = putting-done _ _ _ _ _ _ _ _ _ c.loop-at.invariant.2 c.loop-at-test.false
