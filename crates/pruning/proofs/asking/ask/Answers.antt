use Rattle.pruning.proofs.AskLaws.{never-refused, asked}
use Rattle.pruning.proofs.asking.ask.Goals as goal

pub unwrap-requires : goal.unwrap-requires
unwrap-requires c = never-refused _ _ _ _ _ c.requires _ _ c.needed_at.ensures

pub returns : goal.returns
returns c = asked _ _ _ _ _ c.requires _ _ c.needed_at.ensures _ c.unwrap.ensures
