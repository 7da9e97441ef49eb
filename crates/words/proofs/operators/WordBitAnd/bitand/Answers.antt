use native.Mathlib.Omega.{arith}
use Rattle.words.proofs.WordLaws.{and-made}
use Rattle.words.proofs.operators.WordBitAnd.bitand.Goals as goal

pub returns : goal.returns
returns c = and-made _ _ (omega arith) (omega arith)
