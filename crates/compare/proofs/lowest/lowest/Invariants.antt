use Prim.Native.Nat.{◌≤◌}
use Rattle.words.specs.Halves.{num}
use Rattle.compare.specs.EngineSets.{answer_in}
use Rattle.compare.specs.Search.{Lowered}
use Rattle.compare.proofs.lowest.lowest.Given as goal

abbrev pub invariant-loop-k : goal.invariant-loop-k
invariant-loop-k l = (l.k ≤ l.width) × Lowered (answer_in l.with) (answer_in l.but) (num l.cube.care) (num l.cube.value) l.k (num l.low)
