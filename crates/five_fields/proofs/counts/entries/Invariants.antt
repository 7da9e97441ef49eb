use Rattle.five_fields.specs.Expansion.{expanded}
use lib.ListN.{length}
use Prim.Native.Nat.{◌+◌, ◌-◌}
use mathlib.Core.Path.{◌≡◌}
use Rattle.five_fields.specs.Slices.{lent, rules_from, rules_in}
use Rattle.five_fields.proofs.counts.entries.Given as goal

abbrev pub invariant-loop-i : goal.invariant-loop-i
invariant-loop-i l = l.n + length (expanded (rules_from (lent l.rules) l.i (length l.rules.decision.now - l.i)))
    ≡ length (expanded (rules_in (lent l.rules)))
