use Rattle.rules.specs.Found.{NoneBefore}
use Rattle.words.specs.Halves.{num}
use Rattle.rules.specs.Slices.{rules_in}
use Rattle.rules.proofs.lookups.first_match.Given as goal

abbrev pub invariant-loop-i : goal.invariant-loop-i
invariant-loop-i l = NoneBefore (rules_in l.rules) (num l.header) l.i
