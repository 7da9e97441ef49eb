use Rattle.rules.specs.Slices.{rules_of}
use Rattle.removal.specs.Removal.{Shifted}
use Rattle.rules.proofs.SliceLaws.{Kept}
use Rattle.removal.proofs.removing.move_down.Given as goal

abbrev pub invariant-loop-k : goal.invariant-loop-k
invariant-loop-k l = Kept l.initial.care l.initial.value l.initial.decision l.care l.value l.decision
    × Shifted (rules_of l.initial.care l.initial.value l.initial.decision) (rules_of l.care l.value l.decision) l.i l.k
