use mathlib.Core.Path.{◌≡◌}
use Prim.Native.Nat.{◌+◌}
use lib.ListN.{drop}
use Rattle.image_writer.specs.Writing.{names_check}
use Rattle.image_writer.proofs.writing.names_verdict.Given as goal

abbrev pub invariant-loop-i : goal.invariant-loop-i
invariant-loop-i l = names_check 1 0 l.ids l.counts ≡ names_check (l.i + 1) l.least (drop l.i l.ids) (drop l.i l.counts)
