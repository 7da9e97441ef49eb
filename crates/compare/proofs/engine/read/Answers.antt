use Rattle.compare.proofs.EngineNumbers.{read_told}
use Rattle.compare.proofs.engine.read.Goals as goal

pub returns : goal.returns
returns c = read_told _ _ _ c.low_at.ensures c.high_at.ensures
