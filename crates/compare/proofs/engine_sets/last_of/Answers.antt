use Rattle.words.proofs.WordLaws.{holds, num-lt}
use Rattle.compare.proofs.EngineNumbers.{end-told}
use native.Mathlib.Omega.{arith}
use Rattle.compare.proofs.engine_sets.last_of.Goals as goal

pub returns : goal.returns
returns c = end-told _ _ _ (num-lt _ (omega arith) (omega arith)) (num-lt _ (omega arith) (omega arith)) c.requires (holds c.not.ensures) c.bitor.ensures
