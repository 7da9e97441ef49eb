use native.Mathlib.Omega.{arith}
use Rattle.rules.proofs.ReplyLaws.{stop-up}
use Rattle.compare.specs.Needed.{needed_at}
use Rattle.compare.proofs.SearchLaws.{needed-past, needed-sound, needed-found, needed-none}
use Rattle.compare.proofs.lowest.needed_at.Goals as goal

pub returns-in_err-check_list : goal.returns-in_err-check_list
unfolding needed_at
returns-in_err-check_list c = stop-up _ _ _ _ _ c.from_residual.ensures.1 c.in_err-check_list.ensures

pub returns-then-position-rules : goal.returns-then-position-rules
returns-then-position-rules c = needed-past _ _ _ _ _ c.in_ok-check_list.ensures c.if-position-rules.true

pub lowest_change-requires : goal.lowest_change-requires
lowest_change-requires c = (needed-sound _ _ _ _ 0 c.in_ok-check_list.ensures, omega (arith, c.if-position-rules.false))

pub returns-in_default : goal.returns-in_default
returns-in_default c = needed-none _ _ _ _ _ c.in_ok-check_list.ensures c.in_default.ensures

pub returns : goal.returns
returns c = needed-found _ _ _ _ _ c.in_ok-check_list.ensures _ (omega arith) c.in-Some.ensures
