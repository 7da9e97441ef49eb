use borrow.Author.Rules.{rules}
use Rattle.weaving.proofs.ChunkLaws.{rules-fit}
use Rattle.weaving.proofs.GapLaws.{merging-pair, merging-done, tried-merged}
use Rattle.weaving.proofs.merging.merge_chunk.Goals as goal

pub loop-i-preserved : goal.loop-i-preserved
loop-i-preserved c = let p = c.in-Some.ensures in
    let o = c.loop-i in
    let m = c.merge_pair in (
      merging-pair _ _ _ _ _ _ _ _ (rules-fit _ _ _ _ (search rules) (search rules)) o.invariant.0 p m.ensures,
      tried-merged _ _ _ _ _ _ _ _ _ o.invariant.1 p c.still_done-done.ensures m.ensures,
    )

pub returns : goal.returns
returns c = merging-done _ _ _ _ _ (rules-fit _ _ _ _ (search rules) (search rules)) c.loop-i.invariant.0 c.in_default.ensures
