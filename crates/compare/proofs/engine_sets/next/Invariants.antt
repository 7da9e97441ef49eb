use Rattle.compare.proofs.EngineWords.{Sought}
use Rattle.compare.proofs.engine_sets.next.Given as goal

abbrev pub invariant-loop-x : goal.invariant-loop-x
invariant-loop-x l = Sought l.live l.from l.w l.x l.rest

abbrev pub decreases-loop-x : goal.decreases-loop-x
decreases-loop-x l = l.rest
