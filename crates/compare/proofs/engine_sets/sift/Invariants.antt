use Prim.Native.Nat.{ℕ}
use Rattle.words.specs.Halves.{num}
use Rattle.words.specs.Slices.{words_of}
use Rattle.compare.specs.EngineSets.{put, Left, Kept}
use Rattle.compare.proofs.engine_sets.sift.Given as goal

abbrev pub invariant-loop-x : goal.invariant-loop-x
invariant-loop-x l = (from : ℕ) × Kept (words_of l.care) (words_of l.value) l.live (put l.out l.w l.keep) (num l.cube.care) (num l.cube.value) from × Left l.live l.w l.x from

abbrev pub decreases-loop-x : goal.decreases-loop-x
decreases-loop-x l = l.x
