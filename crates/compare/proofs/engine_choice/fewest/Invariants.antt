use Prim.Native.Nat.{◌+◌, ◌-◌, ◌≤◌, ◌<◌}
use Rattle.compare.specs.EngineSets.{Pending}
use Rattle.compare.proofs.engine_choice.fewest.Given as goal

abbrev pub invariant-loop-s : goal.invariant-loop-s
invariant-loop-s l = (l.s.at ≤ l.until) × (l.s.at < l.until → Pending l.side.live.now l.s.word l.s.left l.s.rest (l.s.at + 1))

abbrev pub decreases-loop-s : goal.decreases-loop-s
decreases-loop-s l = l.until - l.s.at
