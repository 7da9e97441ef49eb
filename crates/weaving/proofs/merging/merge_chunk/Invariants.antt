use Rattle.rules.specs.Slices.{rules_of}
use Rattle.weaving.specs.Inner.{Tried}
use Rattle.weaving.proofs.GapLaws.{Merging}
use Rattle.weaving.proofs.merging.merge_chunk.Given as goal

abbrev pub invariant-loop-i : goal.invariant-loop-i
invariant-loop-i l = Merging (rules_of l.initial.care l.initial.value l.initial.decision) (rules_of l.care l.value l.decision) l.from l.to l.end
    × Tried (rules_of l.care l.value l.decision) l.from l.row l.done l.end

abbrev pub decreases-loop-i : goal.decreases-loop-i
decreases-loop-i l = l.end
