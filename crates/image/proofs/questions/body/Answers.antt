use native.Mathlib.Omega.{arith}
use mathlib.Core.Path.{ap, ◌∙◌}
use Prim.Native.Nat.{ℕ}
use native.Mathlib.Nat.{add-sub_cancel_left}
use Rattle.image_form.specs.Bytes.{part}
use Rattle.image_form.proofs.FormatLaws.{layout-body}
use Rattle.image.proofs.SeekLaws.{body-none, body-found, id-facts}
use Rattle.image.proofs.questions.body.Goals as goal

pub returns-in_default : goal.returns-in_default
returns-in_default c = body-none _ _ c.in_default.field-0 c.in_default.ensures

pub bounds-image-0 : goal.bounds-image-0
bounds-image-0 c = omega (arith, (id-facts _ _ c.in-Ok.ensures.checked).head.least)

pub overflow_mul-end : goal.overflow_mul-end
overflow_mul-end c = omega (arith, layout-body _ _ c.layout.ensures c.in-Ok.p.count, c.in-Ok.ensures.stands)

pub overflow_add-end : goal.overflow_add-end
overflow_add-end c = omega (arith, layout-body _ _ c.layout.ensures c.in-Ok.p.count, c.in-Ok.ensures.stands)

pub slice_bounds-result-end-2 : goal.slice_bounds-result-end-2
slice_bounds-result-end-2 c = omega (arith, layout-body _ _ c.layout.ensures c.in-Ok.p.count, c.in-Ok.ensures.stands)

pub returns : goal.returns
returns c = let b = c.args.image.now in
    let s = layout-body _ _ c.layout.ensures c.in-Ok.p.count in
    ap (λ (k : ℕ). part k c.in-Ok.p.from b) (add-sub_cancel_left c.in-Ok.p.from _ ∙ s.0) ∙ body-found b _ c.in-Ok.p c.in-Ok.ensures
