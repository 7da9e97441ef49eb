use mathlib.Core.Path.{◌≡◌}
use Prim.Native.Nat.{◌+◌, ◌-◌, ◌*◌, ◌≤◌}
use lib.ListN.{length, drop}
use Rattle.image_form.specs.Images.{entries_in}
use Rattle.image_check.specs.Checks.{entries_check, contents_check}
use Rattle.image_check.proofs.checks.contents.Given as goal

abbrev pub invariant-loop-k : goal.invariant-loop-k
invariant-loop-k l =
    (l.next ≤ length l.b)
    × (contents_check l.b ≡ entries_check l.format (length l.b) l.next l.least (l.k + 1) (entries_in (l.lists - l.k) (drop (4 + 8 * l.k) l.b)))
