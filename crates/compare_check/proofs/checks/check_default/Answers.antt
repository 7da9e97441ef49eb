use mathlib.Core.Path.{sym, ◌∙◌}
use native.Mathlib.Omega.{arith}
use Rattle.compare_check.proofs.OrderLaws.{default-absent, default-refused, default-taken}
use Rattle.compare_check.proofs.checks.check_default.Goals as goal
use Rattle.compare_check.proofs.checks.check_default.Goals.{in_default-via-in-None-1, in_default-via-in-Some+else-d}

pub returns : goal.returns
returns c = c.refused.ensures ∙ sym (default-refused _ _ _ c.in-Some.is c.if-d.true)

pub returns-2 : goal.returns-2
returns-2 c = elim c.in_default.branch [
  | in_default-via-in-None-1 w ↦ sym (default-absent _ _ cc)
  | in_default-via-in-Some+else-d w ↦ sym (default-taken _ _ _ w.in-Some.is (omega arith) w.if-d.false)
]
