use Rattle.std.proofs.Common.{◌∙◌, arith, eq-eqb, ne_eqb}
use Rattle.words.proofs.Tests.{and-on, and-off}
use Rattle.words.proofs.WordLaws.{same-made}
use Rattle.words.proofs.order.WordPartialEq.eq.Goals as goal

pub returns-then-self-other : goal.returns-then-self-other
returns-then-self-other c = and-on (eq-eqb _ _ c.if-self-other.true) ∙ same-made _ _ (omega arith) (omega arith)

pub returns-else-self-other : goal.returns-else-self-other
returns-else-self-other c = ne_eqb _ _ c.if-self-other.false ∙ and-off _ (ne_eqb _ _ c.if-self-other.false) ∙ same-made _ _ (omega arith) (omega arith)
