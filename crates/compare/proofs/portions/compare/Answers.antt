use Rattle.compare.proofs.DoneLaws.{compare-without}
use Rattle.compare.proofs.portions.compare.Goals as goal

pub returns : goal.returns
returns c = (compare-without _ _ _ _ _ _ _ _ _ _ _ _ _ _ _ _ _).1 c.compare_outcomes.ensures
