use Rattle.rules.proofs.FoundLaws.{looked-sound, found-few, looked-six, looked-hit, looked-miss}
use Rattle.words.specs.Halves.{num}
use Rattle.rules.proofs.SliceLaws.{told}
use Rattle.rules.proofs.ReplyLaws.{stop-up}
use Rattle.rules.specs.Calls.{looked_up}
use native.Mathlib.Omega.{arith}
use Rattle.rules.proofs.lookups.lookup_number.Goals as goal

pub returns-in_err-check_list : goal.returns-in_err-check_list
unfolding looked_up
returns-in_err-check_list c = stop-up _ _ _ _ _ c.from_residual.ensures.1 c.in_err-check_list.ensures

pub returns-in_err-check_header : goal.returns-in_err-check_header
returns-in_err-check_header c = looked-six _ _ _ _ _ c.in_ok-check_list.ensures _ _ c.from_residual-in_err-check_header.ensures.1 c.in_err-check_header.ensures

pub first_match-requires : goal.first_match-requires
first_match-requires c = (looked-sound _ _ _ _ (num c.args.header) c.in_ok-check_list.ensures).lent

pub returns-in_default : goal.returns-in_default
returns-in_default c = looked-miss _ _ _ _ _ c.in_ok-check_list.ensures c.in_ok-check_header.ensures _ c.first_match.ensures c.in_default.is

pub overflow_add-number : goal.overflow_add-number
overflow_add-number c = omega (arith, found-few _ _ _ _ _ c.in_ok-check_list.ensures _ _ c.first_match.ensures c.in-Some.is)

pub returns : goal.returns
returns c = looked-hit _ _ _ _ _ c.in_ok-check_list.ensures c.in_ok-check_header.ensures _ c.first_match.ensures _ _ c.in-Some.is (told c.rule_at-rule.ensures)
