use native.Mathlib.Omega.{arith}
use mathlib.Core.Path.{sym, ◌∙◌}
use Rattle.compare_check.proofs.OrderLaws.{check-without}
use Rattle.plain_compare.proofs.Same.{plain-check, wide-check}
use Rattle.plain_compare.proofs.walk.check_plain.Goals as goal

pub returns-then-width-gt-WIDEST : goal.returns-then-width-gt-WIDEST
returns-then-width-gt-WIDEST c = c.refused.ensures ∙ sym (wide-check c.args.width _ _ _ _ _ _ _ _ _ _ _ (omega (arith, c.if-width-gt-WIDEST.true)))

pub returns : goal.returns
returns c = c.check_comparison.ensures ∙ sym (check-without _ _ _ _ _ _ _ _ _ _ _ _) ∙ sym (plain-check c.args.width _ _ _ _ _ _ _ _ _ _ _ (omega (arith, c.if-width-gt-WIDEST.false)))
