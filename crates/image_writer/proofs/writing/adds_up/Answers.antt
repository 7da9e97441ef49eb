use native.Mathlib.Omega.{arith}
use Rattle.image_writer.proofs.GivenLaws.{sum-turn, sum_over, sum-all}
use Rattle.image_writer.proofs.writing.adds_up.Goals as goal

pub returns-then-count-left : goal.returns-then-count-left
returns-then-count-left c = sum_over _ c.loop-n.n-index _ c.loop-n.left _ (omega arith) c.from-count.ensures c.loop-n.invariant (omega arith)

pub loop-n-preserved : goal.loop-n-preserved
loop-n-preserved c = omega (arith, c.loop-n.invariant, sum-turn c.args.counts.now c.loop-n.n-index (omega arith), c.from-count.ensures)

pub returns : goal.returns
returns c = sum-all _ c.loop-n.n-index c.loop-n.left _ (omega arith) c.loop-n.invariant
