use Rattle.rules.specs.Slices.{rules_in}
use Rattle.weaving.proofs.LaidLaws.{Running}
use Rattle.weaving.proofs.cutting.run_end.Given as goal

abbrev pub invariant-loop-k : goal.invariant-loop-k
invariant-loop-k l = Running (rules_in l.rules) l.from l.k
