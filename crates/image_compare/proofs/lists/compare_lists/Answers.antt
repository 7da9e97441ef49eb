use Rattle.image_compare.proofs.CompareLaws.{lists-without}
use Rattle.image_compare.proofs.lists.compare_lists.Goals as goal

pub returns : goal.returns
returns c = (lists-without _ _ _ _ _ _ _ _ _ _ _ _ _ _).1 c.compare_list_outcomes.ensures
