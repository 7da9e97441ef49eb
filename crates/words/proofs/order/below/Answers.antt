use Rattle.std.proofs.Common.{◌-◌, ◌∙◌, arith, eq-eqb, ne_eqb}
use Rattle.words.proofs.Tests.{and-on, and-off}
use Rattle.words.proofs.WordLaws.{below-narrow, below-wide, below_all}
use Rattle.words.proofs.BitLaws.{below-shift}
use Rattle.words.proofs.order.below.Goals as goal

pub returns-then-a-eq0 : goal.returns-then-a-eq0
returns-then-a-eq0 c = below-shift c.args.a.low c.args.width ∙ and-on (eq-eqb _ _ c.if-a-eq0.true) ∙ below-narrow _ (omega arith) _ (omega arith)

pub returns-else-a-eq0 : goal.returns-else-a-eq0
returns-else-a-eq0 c = ne_eqb _ _ c.if-a-eq0.false ∙ and-off _ (ne_eqb _ _ c.if-a-eq0.false) ∙ below-narrow _ (omega arith) _ (omega arith)

pub returns-then-width-lt128 : goal.returns-then-width-lt128
returns-then-width-lt128 c = below-shift c.args.a.high (c.args.width - 64) ∙ below-wide _ (omega arith) _ (omega arith)

pub returns : goal.returns
returns c = below_all _ (omega arith) _ (omega arith) (omega arith)
