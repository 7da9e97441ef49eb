use mathlib.Core.Path.{refl}
use native.Mathlib.Omega.{arith}
use borrow.Author.Rules.{rules}
use Rattle.plain_compare.proofs.WalkLaws.{walk_start, walk-on, walk_end, walk_more}
use Rattle.plain_compare.proofs.CallLaws.{end-shifted}
use Rattle.plain_compare.proofs.walk.walk.Goals as goal

pub loop-h-init : goal.loop-h-init
loop-h-init c = walk_start _ _ _ _ _ _ _ _ (omega (arith, c.requires.3)) c.requires.4 (search rules) (search rules)

pub returns-in_default : goal.returns-in_default
returns-in_default c = walk_more _ _ _ _ _ _ _ _ _ _ _ _ _ _ c.loop-h.invariant (search rules) (search rules) _ _ _ _ _
    (omega (arith, c.loop-h-test.true, end-shifted c.args.width c.requires.2)) c.step-passed.auto.first c.step-passed.auto.last (search rules) (search rules) c.step-passed.ensures c.in_default.is _ c.from.ensures _ refl refl

pub loop-h-preserved : goal.loop-h-preserved
loop-h-preserved c = walk-on _ _ _ _ _ _ _ _ _ _ _ _ _ _ c.loop-h.invariant _ _ _ _ _ _
    (omega (arith, c.loop-h-test.true, end-shifted c.args.width c.requires.2)) c.step-passed.auto.first c.step-passed.auto.last c.step-passed.auto.old_answer c.step-passed.auto.new_answer (search rules) (search rules) c.step-passed.ensures c.in-Some.is

pub returns : goal.returns
returns c = walk_end _ _ _ _ _ _ _ _ _ _ _ _ _ _ c.loop-h.invariant (search rules) (search rules) (omega (arith, c.loop-h-test.false, end-shifted c.args.width c.requires.2)) _ refl refl
