use Rattle.pruning.proofs.AskLaws.{needless-told}
use Rattle.pruning.proofs.asking.needless.Goals as goal

pub returns : goal.returns
returns c = needless-told _ _ _ _ _ c.ask.ensures c.is_none.ensures
