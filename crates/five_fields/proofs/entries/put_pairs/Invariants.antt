use Rattle.five_fields.proofs.PutLaws.{Putting}
use Rattle.five_fields.specs.Inner.{entries_by}
use Rattle.five_fields.specs.FiveFieldRule.{rule_of}
use lib.ListN.{length, drop}
use Prim.Native.Nat.{◌+◌, ◌*◌}
use Rattle.five_fields.proofs.entries.put_pairs.Given as goal

abbrev pub invariant-loop-i : goal.invariant-loop-i
invariant-loop-i l = Putting l.at (entries_by (rule_of l.rule) l.source_cares l.source_values l.cares l.values) l.initial.care l.initial.value l.initial.decision (l.at + l.i * length l.cares) (entries_by (rule_of l.rule) (drop l.i l.source_cares) (drop l.i l.source_values) l.cares l.values) l.care l.value l.decision
