use Rattle.std.proofs.Common.{◌≤◌, length}
use Rattle.cases.proofs.files.try_part.Given as goal

abbrev pub invariant-loop : goal.invariant-loop
invariant-loop g l = length l.rest ≤ length l.s
