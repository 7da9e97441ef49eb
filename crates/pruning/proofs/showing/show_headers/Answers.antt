use native.Mathlib.Omega.{arith}
use Rattle.pruning.proofs.ShowLaws.{shown-start, shown-more}
use Rattle.pruning.proofs.showing.show_headers.Goals as goal

pub loop-k-init : goal.loop-k-init
loop-k-init c = shown-start _ _ _

pub loop-k-preserved : goal.loop-k-preserved
loop-k-preserved c = shown-more _ _ _ _ _ _ _ (omega (arith, c.loop-k-test.true, c.requires.1)) c.header_of.ensures c.put_word.ensures c.loop-k.invariant
