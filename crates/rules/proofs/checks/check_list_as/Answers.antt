use Rattle.rules.specs.Calls.{check_list}
use Rattle.rules.proofs.ReplyLaws.{stop-up}
use Rattle.rules.proofs.CheckLaws.{list-two-values, list-two-decisions, list-three, list-rules}
use mathlib.Core.Path.{sym, ◌∙◌}
use Rattle.rules.proofs.checks.check_list_as.Goals as goal

pub returns-in_err-check_width : goal.returns-in_err-check_width
unfolding check_list
returns-in_err-check_width c = stop-up _ _ _ _ _ c.from_residual.ensures.1 c.in_err-check_width.ensures

pub returns-then-rules : goal.returns-then-rules
returns-then-rules c = c.refused.ensures ∙ sym (list-two-values _ _ _ _ _ (sym c.in_ok-check_width.ensures) c.if-rules.true)

pub returns-then-rules-2 : goal.returns-then-rules-2
returns-then-rules-2 c = c.refused-then-rules-2.ensures ∙ sym (list-two-decisions _ _ _ _ _ (sym c.in_ok-check_width.ensures) c.if-rules.false c.if-rules-2.true)

pub returns-then-rules-gt1024 : goal.returns-then-rules-gt1024
returns-then-rules-gt1024 c = c.refused-then-rules-gt1024.ensures ∙ sym (list-three _ _ _ _ _ (sym c.in_ok-check_width.ensures) c.if-rules.false c.if-rules-2.false c.if-rules-gt1024.true)

pub rules_verdict-requires : goal.rules_verdict-requires
rules_verdict-requires c = record { values = sym c.if-rules.false; decisions = sym c.if-rules-2.false }

pub returns : goal.returns
returns c = c.rules_verdict.ensures ∙ sym (list-rules _ _ _ _ _ (sym c.in_ok-check_width.ensures) c.if-rules.false c.if-rules-2.false c.if-rules-gt1024.false)
