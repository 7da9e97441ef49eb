use Rattle.compare.proofs.EngineNumbers.{low_of, high-of, low_and, high-and, low-apart, low_alike}
use mathlib.Core.Path.{refl}
use borrow.Author.Tests.{ne_eqb}
use native.Mathlib.Omega.{arith}
use Rattle.compare.proofs.engine_sets.rule_hits.Goals as goal

pub returns-then-h-low_at : goal.returns-then-h-low_at
returns-then-h-low_at c = low_alike _ _ (low_and _ _ (low_of c.args.h (omega arith)) c.low_at.ensures) c.low_at-2.ensures
    (high-and _ _ (high-of c.args.h (omega arith)) c.high_at.ensures) c.high_at-then-h-low_at.ensures c.if-h-low_at.true refl

pub returns-else-h-low_at : goal.returns-else-h-low_at
returns-else-h-low_at c = rw (ne_eqb _ _ c.if-h-low_at.false) (low-apart _ _ (low_and _ _ (low_of c.args.h (omega arith)) c.low_at.ensures) c.low_at-2.ensures c.if-h-low_at.false)
