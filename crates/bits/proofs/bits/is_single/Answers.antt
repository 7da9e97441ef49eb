use native.Mathlib.Omega.{arith}
use mathlib.Core.Path.{◌∙◌}
use Rattle.words.proofs.WordLaws.{one-low, one-high, one_none}
use Rattle.bits.proofs.bits.is_single.Goals as goal

pub returns-then-a-eq0 : goal.returns-then-a-eq0
returns-then-a-eq0 c = c.is_bit.ensures ∙ one-low _ (omega arith) c.if-a-eq0.true

pub returns-then-a-eq0-2 : goal.returns-then-a-eq0-2
returns-then-a-eq0-2 c = c.is_bit-then-a-eq0-2.ensures ∙ one-high _ (omega arith) c.if-a-eq0-2.true

pub returns : goal.returns
returns c = one_none _ (omega arith) c.if-a-eq0-2.false c.if-a-eq0.false
