use native.Mathlib.Omega.{arith}
use Rattle.words.proofs.WordLaws.{flip-made}
use Rattle.words.proofs.operators.WordNot.not.Goals as goal

pub returns : goal.returns
returns c = flip-made _ (omega arith) (omega arith)
