use Rattle.five_fields.proofs.CheckLaws.{left-pass, left-stop, left_end}
use Rattle.five_fields.specs.Calls.{five_field_check}
use mathlib.Core.Path.{sym, ap, ◌∙◌}
use Rattle.five_fields.proofs.checks.each_verdict.Goals as goal

pub returns-in_err-rule_verdict : goal.returns-in_err-rule_verdict
returns-in_err-rule_verdict c = let o = c.loop-i in
    left-stop _ o.i _ _ _ c.loop-i-test.true c.from_residual.ensures.1 (c.in_err-rule_verdict.ensures ∙ ap (five_field_check _) c.rule_at.ensures) ∙ sym o.invariant

pub loop-i-preserved : goal.loop-i-preserved
loop-i-preserved c = let o = c.loop-i in
    o.invariant ∙ left-pass _ o.i _ c.loop-i-test.true (c.in_ok-rule_verdict.ensures ∙ ap (five_field_check _) c.rule_at.ensures)

pub returns : goal.returns
returns c = let o = c.loop-i in
    sym (o.invariant ∙ left_end _ o.i _ c.loop-i-test.false)
