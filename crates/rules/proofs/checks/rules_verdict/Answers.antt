use Rattle.rules.proofs.SliceLaws.{told, below-rules, few-decisions}
use Rattle.rules.proofs.CheckLaws.{rules-pass, rules-stop, rules-end}
use Rattle.rules.specs.Checks.{rule_check}
use borrow.Author.Rules.{rules}
use mathlib.Core.Path.{refl, sym, ap, ◌∙◌}
use Rattle.rules.proofs.checks.rules_verdict.Goals as goal

pub loop-i-init : goal.loop-i-init
loop-i-init c = refl

pub returns-in_err-rule_verdict : goal.returns-in_err-rule_verdict
returns-in_err-rule_verdict c = let o = c.loop-i in
    rules-stop _ _ o.i _ _ _ (below-rules _ _ _ _ (search rules) c.loop-i-test.true) c.from_residual.ensures.1
    (c.in_err-rule_verdict.ensures ∙ ap (rule_check _ _ _) (told c.rule_at.ensures)) ∙ sym o.invariant

pub loop-i-preserved : goal.loop-i-preserved
loop-i-preserved c = let o = c.loop-i in
    o.invariant ∙ rules-pass _ _ o.i _ (below-rules _ _ _ _ (search rules) c.loop-i-test.true)
    (c.in_ok-rule_verdict.ensures ∙ ap (rule_check _ _ _) (told c.rule_at.ensures))

pub returns : goal.returns
returns c = let o = c.loop-i in
    sym (o.invariant ∙ rules-end _ _ o.i _ (few-decisions _ _ _ _ c.loop-i-test.false))
