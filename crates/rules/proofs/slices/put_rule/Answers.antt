use mathlib.Core.Logic.{inl, inr}
use Rattle.rules.proofs.SliceLaws.{placed-told, placed-no, short}
use borrow.Author.Rules.{rules}
use Rattle.rules.proofs.slices.put_rule.Goals as goal

pub returns-then-i-decision : goal.returns-then-i-decision
returns-then-i-decision c = placed-told _ _ _ _ _ _ _ c.put_word.ensures c.put_word-then-i-decision.ensures (search rules) (search rules) (search rules)

pub returns-else-i-decision : goal.returns-else-i-decision
returns-else-i-decision c = placed-no _ _ _ _ _ (short _ _ _ _ (inr (inr c.if-i-decision.false)))

pub returns-else-i-value : goal.returns-else-i-value
returns-else-i-value c = placed-no _ _ _ _ _ (short _ _ _ _ (inr (inl c.if-i-value.false)))

pub returns-else-i-care : goal.returns-else-i-care
returns-else-i-care c = placed-no _ _ _ _ _ (short _ _ _ _ (inl c.if-i-care.false))
