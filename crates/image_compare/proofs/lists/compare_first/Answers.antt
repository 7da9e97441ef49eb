use Rattle.image_compare.proofs.CompareLaws.{first-without}
use Rattle.image_compare.proofs.lists.compare_first.Goals as goal

pub returns : goal.returns
returns c = (first-without _ _ _ _ _ _ _ _ _ _ _ _).1 c.compare_first_outcomes.ensures
