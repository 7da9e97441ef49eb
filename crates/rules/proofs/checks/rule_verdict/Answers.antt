use Rattle.rules.proofs.CheckLaws.{rule-four, rule-five, rule-fine}
use borrow.Author.Tests.{lt-ltb, le-ltb}
use mathlib.Core.Path.{sym, ◌∙◌}
use Rattle.rules.proofs.checks.rule_verdict.Goals as goal

pub returns-then-rule-lt65535 : goal.returns-then-rule-lt65535
returns-then-rule-lt65535 c = sym (rule-fine _ _ _ _ (sym c.pattern_fits.ensures ∙ c.if-pattern_fits.true) (lt-ltb _ _ c.if-rule-lt65535.true))

pub returns-then-pattern_fits : goal.returns-then-pattern_fits
returns-then-pattern_fits c = c.refused.ensures ∙ sym (rule-five _ _ _ _ (sym c.pattern_fits.ensures ∙ c.if-pattern_fits.true) (le-ltb _ _ c.if-rule-lt65535.false))

pub returns : goal.returns
returns c = c.refused-2.ensures ∙ sym (rule-four _ _ _ _ (sym c.pattern_fits.ensures ∙ c.if-pattern_fits.false))
