use native.Mathlib.Omega.{arith}
use Rattle.rules.proofs.SliceLaws.{rules-length, below-rules}
use Rattle.weaving.proofs.LaidLaws.{running-one, running_more, running-cut, running-end}
use mathlib.Core.Path.{sym}
use Rattle.weaving.proofs.cutting.run_end.Goals as goal

pub loop-k-init : goal.loop-k-init
loop-k-init c = running-one _ _ (below-rules _ _ _ _ c.requires.lent c.requires.from_in_bounds)

pub returns-then-crossed : goal.returns-then-crossed
returns-then-crossed c = let o = c.loop-k in
    running-cut _ _ _ _ o.invariant c.crossed.ensures c.if-crossed.true (omega arith) (below-rules _ _ _ _ c.requires.lent c.loop-k-test.true)

pub loop-k-preserved : goal.loop-k-preserved
loop-k-preserved c = running_more _ _ _ _ c.loop-k.invariant c.crossed.ensures c.if-crossed.false (omega arith) (below-rules _ _ _ _ c.requires.lent c.loop-k-test.true)

pub returns : goal.returns
returns c = running-end _ _ _ _ c.loop-k.invariant (omega arith) (omega arith) (sym (rules-length _ _ _ c.requires.lent))
