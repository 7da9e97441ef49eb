use mathlib.Core.Path.{sym, ◌∙◌}
use native.Mathlib.Omega.{arith}
use Rattle.rules.proofs.ReplyLaws.{stop-up, then_next}
use Rattle.image_form.proofs.FormatLaws.{layout-rule}
use Rattle.image_check.proofs.StepLaws.{rules-turn, rules-end}
use Rattle.image_check.proofs.checks.rules_at.Goals as goal

pub returns-in_err-check_rule : goal.returns-in_err-check_rule
returns-in_err-check_rule c = let o = c.loop-i in
    stop-up _ _ _ _ _ c.from_residual.ensures.1 c.in_err-check_rule.ensures
    ∙ sym (o.invariant ∙ rules-turn _ _ _ _ _ o.i _ _ (layout-rule _ _ c.layout-rule.ensures) c.requires.0 (omega arith) c.requires.2 c.requires.3 _ c.rule_in.ensures)

pub loop-i-preserved : goal.loop-i-preserved
loop-i-preserved c = let o = c.loop-i in
    o.invariant ∙ rules-turn _ _ _ _ _ o.i _ _ (layout-rule _ _ c.layout-rule.ensures) c.requires.0 (omega arith) c.requires.2 c.requires.3 _ c.rule_in.ensures
    ∙ then_next _ _ (sym c.in_ok-check_rule.ensures)

pub returns : goal.returns
returns c = let o = c.loop-i in
    sym (o.invariant ∙ rules-end _ _ _ _ _ o.i _ (omega arith))
