use native.Mathlib.Omega.{arith}
use Rattle.words.proofs.WordLaws.{xor-made}
use Rattle.words.proofs.operators.WordBitXor.bitxor.Goals as goal

pub returns : goal.returns
returns c = xor-made _ _ (omega arith) (omega arith)
