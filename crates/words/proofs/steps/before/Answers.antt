use Rattle.std.proofs.Common.{arith}
use Rattle.words.proofs.WordLaws.{before-made, before-zero}
use Rattle.words.proofs.steps.before.Goals as goal

pub returns-then-a-gt0 : goal.returns-then-a-gt0
returns-then-a-gt0 c = before-made _ _ _ 0 (omega arith) (omega arith) (omega arith)

pub returns-then-a-gt0-2 : goal.returns-then-a-gt0-2
returns-then-a-gt0-2 c = before-made _ _ _ 1 (omega arith) (omega arith) (omega arith)

pub returns : goal.returns
returns c = before-zero _ (omega arith) (omega arith)
