use Rattle.compare.proofs.DoneLaws.{stopped}
use Rattle.plain_compare.proofs.CallLaws.{walk-ready, walk-done}
use Rattle.plain_compare.proofs.walk.compare_plain.Goals as goal

pub returns-in_err-check_plain : goal.returns-in_err-check_plain
returns-in_err-check_plain c = stopped _ _ _ _ _ _ _ _ c.from_residual.ensures.1 c.in_err-check_plain.ensures

pub walk-requires : goal.walk-requires
walk-requires c = walk-ready _ _ _ _ _ _ _ _ _ _ _ _ c.in_ok-check_plain.ensures

pub returns : goal.returns
returns c = walk-done _ _ _ _ _ _ _ _ _ _ _ _ c.in_ok-check_plain.ensures _ _ _ _ _ c.walk.ensures
