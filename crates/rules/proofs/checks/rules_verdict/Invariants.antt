use Rattle.rules.specs.Slices.{rules_in}
use Rattle.rules.specs.Checks.{rules_check}
use lib.ListN.{drop}
use Prim.Native.Nat.{◌+◌}
use mathlib.Core.Path.{◌≡◌}
use Rattle.rules.proofs.checks.rules_verdict.Given as goal

abbrev pub invariant-loop-i : goal.invariant-loop-i
invariant-loop-i l = rules_check l.width l.list 1 (rules_in l.rules) ≡ rules_check l.width l.list (l.i + 1) (drop l.i (rules_in l.rules))
