use mathlib.Core.Path.{sym, ◌∙◌}
use Rattle.plain_compare.proofs.ListingLaws.{passed_over}
use Rattle.plain_compare.proofs.walk.step.Goals as goal

pub returns-then-a-b : goal.returns-then-a-b
returns-then-a-b c = passed_over _ _ _ _ _ _ _ _ (sym c.answer_at-a.ensures ∙ c.if-a-b.true ∙ c.answer_at-b.ensures)
