use Rattle.rules.proofs.CheckLaws.{room-exactly}
use Rattle.weaving.proofs.CallLaws.{call-sound, runs-list, runs-seven, runs-given}
use mathlib.Core.Path.{sym}
use Rattle.weaving.proofs.cutting.runs.Goals as goal

pub returns-in_err-check_list : goal.returns-in_err-check_list
returns-in_err-check_list c = runs-list _ _ _ _ _ _ _ c.from_residual.ensures.1 c.in_err-check_list.ensures

pub returns-in_err-check_room : goal.returns-in_err-check_room
returns-in_err-check_room c = runs-seven _ _ _ _ _ c.in_ok-check_list.ensures _ _ c.from_residual-in_err-check_room.ensures.1 c.in_err-check_room.ensures

pub put_sizes-requires : goal.put_sizes-requires
put_sizes-requires c = let s = call-sound _ _ _ _ c.in_ok-check_list.ensures in
    record { lent = s.lent; decision_len_bound = (s.few, (room-exactly _ _).0 (sym c.in_ok-check_room.ensures)) }

pub returns : goal.returns
returns c = runs-given _ _ _ _ _ c.in_ok-check_list.ensures _ _ c.in_ok-check_room.ensures c.put_sizes.ensures
