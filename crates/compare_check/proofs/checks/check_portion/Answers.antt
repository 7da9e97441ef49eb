use mathlib.Core.Path.{sym, ◌∙◌}
use native.Mathlib.Omega.{arith}
use Rattle.rules.proofs.ReplyLaws.{stop-up}
use Rattle.compare_check.specs.Checks.{portion_check}
use Rattle.compare_check.proofs.PortionLaws.{portion-two, portion-seven, portion-fine}
use Rattle.compare_check.proofs.checks.check_portion.Goals as goal
use Rattle.compare_check.proofs.checks.check_portion.Goals.{then-firsts-lasts-via-then-firsts-lasts, then-firsts-lasts-via-else-firsts-lasts+then-firsts-ne0, then-firsts-lasts-via-else-firsts-lasts+else-firsts-ne0+then-firsts-olds, then-firsts-lasts-via-else-firsts-lasts+else-firsts-ne0+else-firsts-olds+then-firsts-news}

pub returns-in_err-check_header : goal.returns-in_err-check_header
unfolding portion_check
returns-in_err-check_header c = stop-up _ _ _ _ _ c.from_residual.ensures.1 c.in_err-check_header.ensures

pub returns-then-firsts-lasts : goal.returns-then-firsts-lasts
returns-then-firsts-lasts c = c.refused.ensures ∙ sym (portion-two _ _ _ _ _ _ (sym c.in_ok-check_header.ensures)
    (λ p q s t. grind (arith, c.then-firsts-lasts.branch)))

pub returns-then-olds-eq0 : goal.returns-then-olds-eq0
returns-then-olds-eq0 c = c.refused-then-olds-eq0.ensures ∙ sym (portion-seven _ _ _ _ _ _ (sym c.in_ok-check_header.ensures) c.if-firsts-lasts.false (omega arith) (omega arith) c.if-olds-eq0.true)

pub returns : goal.returns
returns c = sym (portion-fine _ _ _ _ _ _ (sym c.in_ok-check_header.ensures) c.if-firsts-lasts.false (omega arith) (omega arith) c.if-olds-eq0.false)
