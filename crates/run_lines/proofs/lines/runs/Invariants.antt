-- So many lines of runs are written.
use mathlib.Core.Path.{◌≡◌}
use Rattle.run_lines.proofs.lines.runs.Given as goal

abbrev pub invariant-loop-i : goal.invariant-loop-i
invariant-loop-i g l = l.written ≡ l.i
