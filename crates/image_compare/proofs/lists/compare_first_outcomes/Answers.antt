use Rattle.image_compare.proofs.CompareLaws.{first-compared}
use Rattle.image_compare.proofs.lists.compare_first_outcomes.Goals as goal

pub returns : goal.returns
returns c = first-compared _ _ _ _ _ _ _ _ _ _ _ _ _ _ _ _ c.first_id.ensures c.first_id-2.ensures c.compare_list_outcomes.ensures
