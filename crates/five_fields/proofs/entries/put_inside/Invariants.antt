use Rattle.five_fields.proofs.PutLaws.{Putting}
use Rattle.five_fields.specs.Inner.{entries_inside}
use Rattle.five_fields.specs.FiveFieldRule.{rule_of}
use lib.ListN.{drop}
use Prim.Native.Nat.{◌+◌}
use Rattle.five_fields.proofs.entries.put_inside.Given as goal

abbrev pub invariant-loop-j : goal.invariant-loop-j
invariant-loop-j l = Putting l.at (entries_inside (rule_of l.rule) l.source_care l.source_value l.cares l.values) l.initial.care l.initial.value l.initial.decision (l.at + l.j) (entries_inside (rule_of l.rule) l.source_care l.source_value (drop l.j l.cares) (drop l.j l.values)) l.care l.value l.decision
