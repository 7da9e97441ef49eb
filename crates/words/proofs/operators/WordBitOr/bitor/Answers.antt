use native.Mathlib.Omega.{arith}
use Rattle.words.proofs.WordLaws.{or-made}
use Rattle.words.proofs.operators.WordBitOr.bitor.Goals as goal

pub returns : goal.returns
returns c = or-made _ _ (omega arith) (omega arith)
