use native.Mathlib.Omega.{arith}
use Rattle.words.proofs.WordLaws.{ones-made, ones_low}
use lib.Count.{ones-le}
use Rattle.bits.proofs.bits.ones.Goals as goal

pub returns-then-a-eq0 : goal.returns-then-a-eq0
returns-then-a-eq0 c = ones_low _ (omega arith) c.if-a-eq0.true

pub overflow_add-result : goal.overflow_add-result
overflow_add-result c = record { fits = omega (arith, ones-le 64 c.args.a.low (omega arith), ones-le 64 c.args.a.high (omega arith)) }

pub returns : goal.returns
returns c = ones-made _ (omega arith)
