use mathlib.Core.Path.{◌≡◌}
use Prim.Native.Nat.{◌+◌}
use lib.ListN.{length, drop}
use Rattle.rules.specs.Slices.{rules_in}
use Rattle.image_check.specs.Checks.{lists_check}
use Rattle.image_writer.specs.Writing.{sum_of, given_in, lists_from}
use Rattle.image_writer.proofs.writing.lists_verdict.Given as goal

abbrev pub invariant-loop-i : goal.invariant-loop-i
invariant-loop-i l = (l.from + sum_of (drop l.i l.counts) ≡ length l.rules.decision.now)
    × (lists_check l.width 1 (given_in l.ids l.counts l.rules) ≡ lists_check l.width (l.i + 1) (lists_from (drop l.i l.ids) (drop l.i l.counts) (drop l.from (rules_in l.rules))))
