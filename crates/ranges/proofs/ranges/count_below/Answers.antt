use mathlib.Core.Path.{ap, ◌∙◌}
use Prim.Native.Nat.{ℕ, ◌+◌, ◌≤◌, ◌^◌}
use native.Mathlib.Omega.{arith}
use lib.ListN.{length}
use lib.Pow.{pow_mono}
use Rattle.ranges.specs.Calls.{widest_field}
use Rattle.ranges.specs.Ranges.{covering}
use Rattle.ranges.proofs.CoverLaws.{cover-none}
use Rattle.ranges.proofs.FewLaws.{range-few}
use Rattle.ranges.proofs.StepLaws.{widest_fits, widest-count}
use Rattle.ranges.proofs.ranges.count_below.Goals as goal

pub power-at-requires : goal.power-at-requires
power-at-requires c = omega (arith, c.requires.0, (widest_fits _ _ _ _ c.requires.1 c.stars_at.ensures).0)

pub overflow_add-at : goal.overflow_add-at
overflow_add-at c = let most : 2 ^ c.args.bits ≤ 2 ^ widest_field = pow_mono c.requires.0 in
    omega (arith, most, c.requires.1, c.power-at.ensures, (widest_fits _ _ _ _ c.requires.1 c.stars_at.ensures).1)

pub overflow_add-n : goal.overflow_add-n
overflow_add-n c = let few = range-few c.args.bits c.args.low c.args.end c.requires.1 in
    omega (arith, few, c.requires.0, c.loop-at.invariant)

pub loop-at-preserved : goal.loop-at-preserved
loop-at-preserved c = let o = c.loop-at in
    let e = widest-count c.args.bits o.at c.args.end _ c.requires.1 c.stars_at.ensures in
    ap (λ (x : ℕ). o.n + 1 + length (covering c.args.bits (o.at + x) c.args.end)) c.power-at.ensures ∙ omega (arith, e, o.invariant)

pub returns : goal.returns
returns c = omega (arith, c.loop-at.invariant, ap length (cover-none c.args.bits c.loop-at.at c.args.end c.loop-at-test.false))
