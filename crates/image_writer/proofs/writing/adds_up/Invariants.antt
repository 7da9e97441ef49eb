use mathlib.Core.Path.{◌≡◌}
use Prim.Native.Nat.{◌+◌}
use lib.ListN.{drop}
use Rattle.image_writer.specs.Writing.{sum_of}
use Rattle.image_writer.proofs.writing.adds_up.Given as goal

abbrev pub invariant-loop-n : goal.invariant-loop-n
invariant-loop-n l = l.rules + sum_of (drop l.n-index l.counts) ≡ l.left + sum_of l.counts
