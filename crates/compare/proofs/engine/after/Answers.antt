use Rattle.words.proofs.WordLaws.{single-told}
use Rattle.compare.proofs.EngineNumbers.{after-told}
use Rattle.compare.proofs.engine.after.Goals as goal

pub returns : goal.returns
returns c = after-told _ _ _ (single-told _ c.requires.0 c.single.ensures) c.requires.1 c.plus.ensures
