use Rattle.words.proofs.WordLaws.{pushed-made}
use Rattle.words.proofs.steps.pushed.Goals as goal

pub returns : goal.returns
returns c = pushed-made _ _ _ _ c.plus.ensures c.plus-2.ensures
