use Rattle.words.proofs.WordLaws.{num-lt, holds}
use Rattle.compare.proofs.EngineNumbers.{full-told}
use native.Mathlib.Omega.{arith}
use Rattle.compare.proofs.engine.is_full.Goals as goal

pub returns : goal.returns
returns c = full-told _ _ (num-lt _ (omega arith) (omega arith)) (holds c.not.ensures) c.is_zero.ensures
