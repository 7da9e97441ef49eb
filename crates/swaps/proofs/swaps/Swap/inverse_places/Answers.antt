use Rattle.std.proofs.Common.{arith}
use Rattle.rules.specs.Checks.{widest}
use Rattle.swaps.proofs.SwapLaws.{good-perm}
use Rattle.swaps.proofs.SwapSteps.{seats_none, seats_more, seats_all}
use Rattle.swaps.proofs.swaps.Swap.inverse_places.Goals as goal

pub loop-i-init : goal.loop-i-init
loop-i-init c = seats_none widest _ _

pub overflow_sub-out : goal.overflow_sub-out
overflow_sub-out c = (good-perm widest _ _ c.requires.0 c.requires.1).low c.loop-i.i c.loop-i-test.true

pub bounds-out-self : goal.bounds-out-self
bounds-out-self c = omega (arith, (good-perm widest _ _ c.requires.0 c.requires.1).high c.loop-i.i c.loop-i-test.true)

pub loop-i-preserved : goal.loop-i-preserved
loop-i-preserved c = seats_more widest _ _ _ _ c.requires.0 (good-perm widest _ _ c.requires.0 c.requires.1) c.loop-i-test.true c.loop-i.invariant

pub returns : goal.returns
returns c = seats_all widest _ _ _ _ c.requires.0 (omega arith) c.loop-i.invariant
