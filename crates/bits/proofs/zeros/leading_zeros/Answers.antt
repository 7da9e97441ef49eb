use lib.Count.{leading_le}
use native.Mathlib.Omega.{arith}
use Rattle.words.proofs.WordLaws.{leading-here, leading-there}
use Rattle.bits.proofs.zeros.leading_zeros.Goals as goal

pub overflow_add-result : goal.overflow_add-result
overflow_add-result c = record { fits = omega (arith, leading_le 64 c.args.a.low) }

pub returns-then-a-eq0 : goal.returns-then-a-eq0
returns-then-a-eq0 c = leading-there _ (omega arith) (omega arith)

pub returns : goal.returns
returns c = leading-here _ (omega arith) (omega arith) c.if-a-eq0.false
