use native.Mathlib.Omega.{arith}
use Rattle.ranges.proofs.StepLaws.{open_none, widest-last}
use Rattle.ranges.proofs.ranges.stars_at.Goals as goal

pub loop-stars-init : goal.loop-stars-init
loop-stars-init c = open_none _ _ c.requires.1

pub returns : goal.returns
returns c = widest-last c.args.bits _ _ _ (omega arith) c.requires.2 c.loop-stars.invariant
