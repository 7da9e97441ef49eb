use Rattle.five_fields.specs.Calls.{five_fields_check}
use lib.ListN.{length}
use Prim.Native.Nat.{◌+◌, ◌-◌}
use mathlib.Core.Path.{◌≡◌}
use Rattle.five_fields.specs.Slices.{lent, rules_from, rules_in}
use Rattle.five_fields.proofs.checks.each_verdict.Given as goal

abbrev pub invariant-loop-i : goal.invariant-loop-i
invariant-loop-i l = five_fields_check 1 (rules_in (lent l.rules))
    ≡ five_fields_check (l.i + 1) (rules_from (lent l.rules) l.i (length l.rules.decision.now - l.i))
