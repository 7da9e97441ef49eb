use Rattle.rules.proofs.SliceLaws.{rule-read, past-cares, past-values, past-decisions}
use borrow.Author.Rules.{rules}
use Rattle.rules.proofs.slices.rule_at.Goals as goal

pub returns-then-i-rules-3 : goal.returns-then-i-rules-3
returns-then-i-rules-3 c = rule-read _ _ _ _ _ _ c.word_at.ensures c.word_at-then-i-rules-3.ensures (search rules) (search rules) (search rules)

pub returns-else-i-rules-3 : goal.returns-else-i-rules-3
returns-else-i-rules-3 c = past-decisions _ _ _ _ c.if-i-rules-3.false

pub returns-else-i-rules-2 : goal.returns-else-i-rules-2
returns-else-i-rules-2 c = past-values _ _ _ _ (search rules)

pub returns-else-i-rules : goal.returns-else-i-rules
returns-else-i-rules c = past-cares _ _ _ _ (search rules)
