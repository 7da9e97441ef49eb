use Rattle.std.proofs.Common.{arith, sym, ◌∙◌}
use Rattle.rules.proofs.CheckLaws.{width-high, width-inside}
use Rattle.rules.proofs.checks.check_width.Goals as goal

pub returns-then-width-gt128 : goal.returns-then-width-gt128
returns-then-width-gt128 c = c.refused-then-width-gt128.ensures ∙ sym (width-high _ (omega arith) (omega arith))

pub returns : goal.returns
returns c = sym (width-inside _ (omega arith) (omega arith))
