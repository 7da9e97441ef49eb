use Rattle.compare.proofs.EngineNumbers.{low_of, high-of, low_and, high-and, low-apart, low_alike}
use mathlib.Core.Path.{refl}
use borrow.Author.Tests.{ne_eqb}
use native.Mathlib.Omega.{arith}
use Rattle.compare.proofs.engine_sets.rule_spans.Goals as goal

pub returns-then-low_at-places : goal.returns-then-low_at-places
returns-then-low_at-places c = low_alike _ _ (low_and _ _ c.low_at.ensures (low_of c.args.places (omega arith))) c.low_at-2.ensures
    (high-and _ _ c.high_at.ensures (high-of c.args.places (omega arith))) c.high_at-then-low_at-places.ensures c.if-low_at-places.true refl

pub returns-else-low_at-places : goal.returns-else-low_at-places
returns-else-low_at-places c = rw (ne_eqb _ _ c.if-low_at-places.false) (low-apart _ _ (low_and _ _ c.low_at.ensures (low_of c.args.places (omega arith))) c.low_at-2.ensures c.if-low_at-places.false)
