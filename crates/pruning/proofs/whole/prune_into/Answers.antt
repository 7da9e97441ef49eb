use mathlib.Core.Path.{refl}
use Rattle.pruning.proofs.CallLaws.{copied-holds, left-all}
use Rattle.pruning.proofs.whole.prune_into.Goals as goal

pub drop_all-left-requires : goal.drop_all-left-requires
drop_all-left-requires c = copied-holds _ _ _ _ c.requires.0 _ _ _ _ c.copy_rules.ensures

pub returns : goal.returns
returns c = left-all _ _ _ _ c.requires.0 _ _ _ _ c.copy_rules.ensures _ _ _ _ c.drop_all-left.ensures _ _ c.show_headers.ensures _ refl refl
