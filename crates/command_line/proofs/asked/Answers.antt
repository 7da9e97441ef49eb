use mathlib.Core.Path.{sym, ◌∙◌}
use native.Mathlib.Omega.{arith}
use Rattle.command_line.proofs.WordLaws.{defaults-long}
use Rattle.command_line.proofs.asked.Goals as goal

pub overflow_sub-words : goal.overflow_sub-words
overflow_sub-words c = omega (arith, defaults-long _ _ _ (sym c.names_defaults.ensures ∙ c.if-names_defaults.true))

pub overflow_sub-result : goal.overflow_sub-result
overflow_sub-result c = omega (arith, defaults-long _ _ _ (sym c.names_defaults.ensures ∙ c.if-names_defaults.true))

pub overflow_sub-result-then-names_defaults : goal.overflow_sub-result-then-names_defaults
overflow_sub-result-then-names_defaults c = omega (arith, defaults-long _ _ _ (sym c.names_defaults.ensures ∙ c.if-names_defaults.true))
