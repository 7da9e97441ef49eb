use Rattle.words.proofs.WordLaws.{single-told}
use Rattle.compare.proofs.engine.place.Goals as goal

pub returns : goal.returns
returns c = single-told _ c.requires c.single.ensures
