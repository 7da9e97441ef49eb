use Rattle.five_fields.proofs.PutLaws.{Expanding}
use Rattle.five_fields.specs.Slices.{lent}
use Rattle.five_fields.proofs.expansions.put_all.Given as goal

abbrev pub invariant-loop-i : goal.invariant-loop-i
invariant-loop-i l = Expanding (lent l.rules) l.initial.care l.initial.value l.initial.decision l.i l.at l.care l.value l.decision
