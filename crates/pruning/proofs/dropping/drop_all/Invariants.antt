use Rattle.rules.proofs.SliceLaws.{Kept}
use Rattle.rules.specs.Slices.{rules_of}
use Rattle.pruning.specs.Inner.{Passing}
use Rattle.pruning.proofs.dropping.drop_all.Given as goal

abbrev pub invariant-loop-k : goal.invariant-loop-k
invariant-loop-k l = Passing l.width (rules_of l.initial.care l.initial.value l.initial.decision) l.count l.count l.care l.value l.decision l.left l.k × Kept l.initial.care l.initial.value l.initial.decision l.care l.value l.decision
