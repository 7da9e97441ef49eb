use Rattle.image.proofs.SeekLaws.{Filling}
use Rattle.image.proofs.reading.fill.Given as goal

abbrev pub invariant-loop-i : goal.invariant-loop-i
invariant-loop-i l = Filling l.format l.b l.from l.i l.initial.care l.initial.value l.initial.decision l.care l.value l.decision
