use Rattle.five_fields.proofs.PutLaws.{putting-some, putting-none, put_one, inside-next, inside-none}
use native.Mathlib.Omega.{arith}
use Rattle.five_fields.proofs.entries.put_inside.Goals as goal

pub loop-j-preserved : goal.loop-j-preserved
loop-j-preserved c = let o = c.loop-j in
    putting-some _ _ _ _ _ _ _ _ _ _ _ _ _ _ _ (inside-next _ _ _ _ _ o.j c.loop-j-test.true c.requires.1) o.invariant (put_one _ _ _ _ _ _ _ _ _ c.entry-e.ensures c.put_rule.ensures) _ (omega arith)

pub returns : goal.returns
returns c = let o = c.loop-j in
    putting-none _ _ _ _ _ _ _ _ _ _ (inside-none _ _ _ _ _ o.j c.loop-j-test.false) o.invariant
