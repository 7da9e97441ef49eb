use native.Mathlib.Omega.{arith}
use Rattle.words.proofs.WordLaws.{num-lt, without-made}
use Rattle.bits.proofs.bits.without.Goals as goal

pub returns : goal.returns
returns c = without-made _ _ (num-lt _ (omega arith) (omega arith)) (num-lt _ (omega arith) (omega arith)) c.not.ensures c.bitand.ensures
