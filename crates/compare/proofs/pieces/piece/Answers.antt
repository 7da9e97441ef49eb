use mathlib.Core.Path.{refl}
use Rattle.compare.proofs.SweepLaws.{put-words, put-long, piece-long, piece-full, piece-more}
use Rattle.compare.proofs.pieces.piece.Goals as goal

pub returns-then-joins : goal.returns-then-joins
returns-then-joins c = λ start from. piece-long start _ _ _ _ _ _ _ _ _ from c.requires.0 c.requires.1 c.requires.2 c.requires.3 _ (put-long _ _ _ _ c.put_word.ensures) (put-words _ _ _ _ c.put_word.ensures) (c.joins.ensures.0 c.if-joins.true)

pub returns-then-count-old_answer : goal.returns-then-count-old_answer
returns-then-count-old_answer c = λ start from. piece-full start _ _ _ _ _ _ _ _ _ from c.requires.0 c.requires.1 c.requires.2 c.requires.3 (c.joins.ensures.1 c.if-joins.false) _ refl c.if-count-old_answer.true

pub returns : goal.returns
returns c = λ start from. piece-more start _ _ _ _ _ _ _ _ _ from c.requires.0 c.requires.1 c.requires.2 c.requires.3 (c.joins.ensures.1 c.if-joins.false) _ _ (put-long _ _ _ _ c.put_word-2.ensures) (put-long _ _ _ _ c.put_word-3.ensures) (put-words _ _ _ _ c.put_word-2.ensures) (put-words _ _ _ _ c.put_word-3.ensures) c.if-count-old_answer.false
