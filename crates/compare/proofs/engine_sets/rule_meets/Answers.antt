use Rattle.compare.proofs.EngineNumbers.{low_of, high-of, low_and, high-and, low-apart, low_alike}
use mathlib.Core.Path.{refl}
use borrow.Author.Tests.{ne_eqb}
use native.Mathlib.Omega.{arith}
use Rattle.compare.proofs.engine_sets.rule_meets.Goals as goal

pub returns-then-low_at-cube : goal.returns-then-low_at-cube
returns-then-low_at-cube c = low_alike _ _ (low_and _ _ c.low_at.ensures (low_of c.args.cube.care (omega arith))) (low_and _ _ (low_of c.args.cube.value (omega arith)) c.low_at-2.ensures)
    (high-and _ _ c.high_at.ensures (high-of c.args.cube.care (omega arith))) (high-and _ _ (high-of c.args.cube.value (omega arith)) c.high_at-then-low_at-cube.ensures) c.if-low_at-cube.true refl

pub returns-else-low_at-cube : goal.returns-else-low_at-cube
returns-else-low_at-cube c = rw (ne_eqb _ _ c.if-low_at-cube.false) (low-apart _ _ (low_and _ _ c.low_at.ensures (low_of c.args.cube.care (omega arith))) (low_and _ _ (low_of c.args.cube.value (omega arith)) c.low_at-2.ensures) c.if-low_at-cube.false)
