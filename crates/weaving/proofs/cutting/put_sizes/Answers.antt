use mathlib.Core.Path.{sym}
use native.Mathlib.Omega.{arith}
use Rattle.rules.proofs.SliceLaws.{rules-length, few-decisions}
use Rattle.weaving.proofs.SizeLaws.{sized-done}
use Rattle.weaving.proofs.cutting.put_sizes.Goals as goal

pub overflow_cast-sizes : goal.overflow_cast-sizes
overflow_cast-sizes c = omega (arith, c.run_end-to.ensures.inside, rules-length _ _ _ c.requires.lent, c.requires.decision_len_bound.0)

pub offset_bounds-sizes-at-2 : goal.offset_bounds-sizes-at-2
offset_bounds-sizes-at-2 c = let s = c.loop-from.invariant in omega (arith, s.behind, s.inside, rules-length _ _ _ c.requires.lent, c.requires.decision_len_bound.0)

pub slice_bounds-fill-count : goal.slice_bounds-fill-count
slice_bounds-fill-count c = let s = c.loop-from.invariant in omega (arith, s.behind, s.inside, rules-length _ _ _ c.requires.lent)

pub slice_bounds-fill-start : goal.slice_bounds-fill-start
slice_bounds-fill-start c = let s = c.loop-from.invariant in omega (arith, c.loop-from.auto.sizes, s.behind, s.inside, rules-length _ _ _ c.requires.lent, c.requires.decision_len_bound.1)

pub returns : goal.returns
returns c = let o = c.loop-from in
    let size = rules-length _ _ _ c.requires.lent in
    sized-done _ _ _ _ _ _ _ o.invariant (c.fill.ensures.after (λ y h. h)) (omega (arith, o.invariant.inside, size, c.loop-from-test.false)) (sym size)
    (few-decisions _ _ _ _ (omega (arith, o.auto.sizes, c.requires.decision_len_bound.1)))
