use Rattle.pruning.proofs.ShowLaws.{copied}
use Rattle.pruning.proofs.whole.copy_rules.Goals as goal

pub returns : goal.returns
returns c = copied _ _ _ _ _ _ _ _ _ c.requires.0 c.requires.1 c.requires.2 c.copy_from_slice.ensures.after c.copy_from_slice-2.ensures.after c.copy_from_slice-3.ensures.after
