use mathlib.Core.Path.{◌≡◌}
use Prim.Native.Nat.{◌+◌, ◌-◌, ◌*◌}
use lib.ListN.{length, drop}
use Rattle.image_form.specs.Formats.{rule_size}
use Rattle.image_form.specs.Images.{entries_in, lists_in, total}
use Rattle.image_check.specs.Checks.{bodies_check, lists_check}
use Rattle.image_check.proofs.checks.bodies.Given as goal

abbrev pub invariant-loop-k : goal.invariant-loop-k
invariant-loop-k l =
    (l.from + rule_size l.format * total (entries_in (l.lists - l.k) (drop (4 + 8 * l.k) l.b)) ≡ length l.b)
    × (bodies_check l.b ≡ lists_check l.width (l.k + 1) (lists_in l.format (entries_in (l.lists - l.k) (drop (4 + 8 * l.k) l.b)) (drop l.from l.b)))
