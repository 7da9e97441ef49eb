use Rattle.std.proofs.Common.{◌≤◌, length}
use Rattle.cases.proofs.files.after_case.Given as goal

abbrev pub invariant-loop : goal.invariant-loop
invariant-loop l = length l.rest ≤ length l.s
