use Rattle.image_form.specs.Formats.{rule_size}
use mathlib.Core.Path.{◌≡◌}
use Prim.Native.Nat.{◌+◌, ◌-◌, ◌*◌}
use lib.ListN.{drop}
use Rattle.rules.specs.Checks.{rules_check}
use Rattle.image_form.specs.Images.{rules_in}
use Rattle.image_check.proofs.checks.rules_at.Given as goal

abbrev pub invariant-loop-i : goal.invariant-loop-i
invariant-loop-i l =
    rules_check l.width l.list 1 (rules_in l.format l.count (drop l.from l.b))
    ≡ rules_check l.width l.list (l.i + 1) (rules_in l.format (l.count - l.i) (drop (l.from + rule_size l.format * l.i) l.b))
