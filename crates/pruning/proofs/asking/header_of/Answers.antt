use mathlib.Core.Path.{◌∙◌}
use native.Mathlib.Omega.{arith}
use borrow.Author.Rules.{rules}
use Rattle.words.proofs.WordLaws.{holds}
use Rattle.pruning.proofs.AskLaws.{first-rules, shown-told, shown-past}
use Rattle.pruning.proofs.asking.header_of.Goals as goal

pub returns-then-count-k : goal.returns-then-count-k
returns-then-count-k c = holds c.from.ensures ∙ shown-past _ _ _ (omega (arith, first-rules _ _ _ _ _ c.requires, c.if-count-k.true))

pub returns : goal.returns
returns c = shown-told _ _ _ _ _ _ c.ask.ensures c.from-2.ensures (search rules)
