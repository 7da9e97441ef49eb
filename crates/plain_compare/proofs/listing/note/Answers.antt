use Rattle.plain_compare.proofs.ListingLaws.{lengthened, no_place, one_more}
use Rattle.plain_compare.proofs.listing.note.Goals as goal

pub returns-then-joins : goal.returns-then-joins
returns-then-joins c = lengthened _ _ _ _ _ _ _ _ c.requires.0 c.requires.1 c.requires.2 c.from-header.ensures _ c.put_word.ensures (c.joins.ensures.0 c.if-joins.true)

pub returns-then-count-old_answer : goal.returns-then-count-old_answer
returns-then-count-old_answer c = no_place _ _ _ _ _ _ _ _ c.requires.0 c.requires.1 c.requires.2 c.from-header.ensures (c.joins.ensures.1 c.if-joins.false) c.if-count-old_answer.true

pub returns : goal.returns
returns c = one_more _ _ _ _ _ _ _ _ c.requires.0 c.requires.1 c.requires.2 c.from-header.ensures (c.joins.ensures.1 c.if-joins.false) _ _ c.put_word-2.ensures c.put_word-3.ensures c.if-count-old_answer.false
