use Rattle.rules.specs.Calls.{check_rule}
use Rattle.rules.proofs.ReplyLaws.{then_next, stop-up}
use mathlib.Core.Path.{sym, ◌∙◌}
use Rattle.rules.proofs.checks.check_rule.Goals as goal

pub returns-in_err-check_width : goal.returns-in_err-check_width
unfolding check_rule
returns-in_err-check_width c = stop-up _ _ _ _ _ c.from_residual.ensures.1 c.in_err-check_width.ensures

pub returns : goal.returns
unfolding check_rule
returns c = c.rule_verdict.ensures ∙ sym (then_next _ _ (sym c.in_ok-check_width.ensures))
