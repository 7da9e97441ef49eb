use Rattle.compare.proofs.EngineNumbers.{above-told}
use Rattle.compare.proofs.engine.above.Goals as goal

pub returns : goal.returns
returns c = above-told _ c.requires c.upper.ensures
