use borrow.Author.Rules.{rules}
use Rattle.plain_compare.proofs.AnswerLaws.{never-refused, answer-told}
use Rattle.plain_compare.proofs.answers.answer_at.Goals as goal

pub unwrap-hit-requires : goal.unwrap-hit-requires
unwrap-hit-requires c = never-refused _ _ _ _ _ c.requires.0 c.requires.1 c.from.ensures _ c.lookup.ensures

pub returns : goal.returns
returns c = answer-told _ _ _ _ _ c.requires.0 c.requires.1 c.from.ensures _ c.lookup.ensures _ _ c.unwrap-hit.ensures (search rules)
