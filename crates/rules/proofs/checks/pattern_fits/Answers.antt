use mathlib.Core.Path.{sym, ◌∙◌}
use Rattle.words.proofs.WordLaws.{same-told}
use Rattle.words.proofs.Tests.{and-on, and-off}
use Rattle.rules.specs.Checks.{pattern_fits}
use Rattle.rules.proofs.checks.pattern_fits.Goals as goal

pub returns-then-below-2 : goal.returns-then-below-2
unfolding pattern_fits
returns-then-below-2 c = same-told _ _ c.eq.ensures c.bitand.ensures ∙ and-on (sym c.below-then-below.ensures ∙ c.if-below-2.true) ∙ and-on (sym c.below.ensures ∙ c.if-below.true)

pub returns-else-below-2 : goal.returns-else-below-2
unfolding pattern_fits
returns-else-below-2 c = c.if-below-2.false ∙ and-off _ (sym c.below-then-below.ensures ∙ c.if-below-2.false) ∙ and-on (sym c.below.ensures ∙ c.if-below.true)

pub returns-else-below : goal.returns-else-below
unfolding pattern_fits
returns-else-below c = c.if-below.false ∙ and-off _ (sym c.below.ensures ∙ c.if-below.false)
