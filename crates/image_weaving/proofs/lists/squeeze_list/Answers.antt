use mathlib.Core.Path.{refl, sym}
use lib.Seq.{length-take-le}
use native.Mathlib.Omega.{arith}
use Rattle.image.proofs.ReadLaws.{read-refused, read-passed, read-few, read_held}
use Rattle.image_weaving.proofs.OneLaws.{list-refused, list-ready, list-squeezed}
use borrow.Author.Rules.{rules}
use Rattle.image_weaving.proofs.lists.squeeze_list.Goals as goal

pub returns-in_err-n : goal.returns-in_err-n
returns-in_err-n c = list-refused _ _ _ _ _ _ _ _ c.from_residual.ensures.1 (read-refused _ _ _ _ _ _ _ _ _ c.in_err-n.ensures (search rules) (search rules) (search rules) refl)

pub overflow_mul-halves : goal.overflow_mul-halves
overflow_mul-halves c = omega (arith, read-few _ _ _ _ _ _ _ _ _ c.in_ok-n.ensures _ refl)

pub slice_bounds-cares-end : goal.slice_bounds-cares-end
slice_bounds-cares-end c = omega (arith, read-few _ _ _ _ _ _ _ _ _ c.in_ok-n.ensures _ refl)

pub slice_bounds-values-end : goal.slice_bounds-values-end
slice_bounds-values-end c = omega (arith, read-few _ _ _ _ _ _ _ _ _ c.in_ok-n.ensures _ refl)

pub slice_bounds-decisions-end : goal.slice_bounds-decisions-end
slice_bounds-decisions-end c = omega (arith, read-few _ _ _ _ _ _ _ _ _ c.in_ok-n.ensures _ refl)

pub slice_bounds-rules-end : goal.slice_bounds-rules-end
slice_bounds-rules-end c = sym (length-take-le _ _ (omega (arith, read-few _ _ _ _ _ _ _ _ _ c.in_ok-n.ensures _ refl)))

pub slice_bounds-rules-end-2 : goal.slice_bounds-rules-end-2
slice_bounds-rules-end-2 c = sym (length-take-le _ _ (omega (arith, read-few _ _ _ _ _ _ _ _ _ c.in_ok-n.ensures _ refl)))

pub slice_bounds-rules-end-3 : goal.slice_bounds-rules-end-3
slice_bounds-rules-end-3 c = sym (length-take-le _ _ (omega (arith, read-few _ _ _ _ _ _ _ _ _ c.in_ok-n.ensures _ refl)))

pub squeeze_rules-requires : goal.squeeze_rules-requires
squeeze_rules-requires c = list-ready _ _ _ _ _ _ (read-passed _ _ _ _ _ _ _ _ _ c.in_ok-n.ensures _ refl) (read_held _ _ _ _ _ _ _ _ _ c.in_ok-n.ensures _ refl) _ c.byte_at-width.ensures.0 _ _ _ c.requires

pub returns : goal.returns
returns c = list-squeezed _ _ _ _ _ _ (read-passed _ _ _ _ _ _ _ _ _ c.in_ok-n.ensures _ refl) (read_held _ _ _ _ _ _ _ _ _ c.in_ok-n.ensures _ refl) _ c.byte_at-width.ensures.0 _ _ _ _ _ c.squeeze_rules.ensures
