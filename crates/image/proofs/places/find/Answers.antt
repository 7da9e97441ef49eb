use mathlib.Core.Path.{sym, ◌∙◌}
use native.Mathlib.Omega.{arith}
use Rattle.image_form.specs.Images.{format_in}
use Rattle.image_form.proofs.FormatLaws.{layout-body}
use Rattle.image_form.proofs.PartLaws.{entry-got}
use Rattle.image_check.proofs.StepLaws.{total-start, size_step}
use Rattle.image.proofs.SeekLaws.{place_is, place-start, place_here, place-on, place_end}
use Rattle.image.proofs.places.find.Goals as goal

pub loop-k-init : goal.loop-k-init
loop-k-init c = (
  total-start c.args.b.now _ _ c.byte_at-lists.ensures.0 (omega arith) c.requires.2,
  place-start c.args.b.now _ _ _ c.byte_at-lists.ensures.0 (omega arith),
)

pub returns-then-entry-id : goal.returns-then-entry-id
returns-then-entry-id c = let o = c.loop-k in
    let e = c.entry_in-entry in
    place_is c.args.b.now _ _ c.requires.2
    (o.invariant.1 ∙ place_here _ _ o.k _ _ _ (omega arith) e.result (entry-got _ _ _ e.ensures (omega arith)) c.if-entry-id.true)
    e.ensures.count

pub overflow_mul-from-in-loop-k : goal.overflow_mul-from-in-loop-k
overflow_mul-from-in-loop-k c = omega (arith, layout-body _ _ c.layout-rule.ensures c.entry_in-entry.result.count, c.entry_in-entry.ensures.count)

pub overflow_add-from-in-loop-k : goal.overflow_add-from-in-loop-k
overflow_add-from-in-loop-k c = omega (arith, layout-body _ _ c.layout-rule.ensures c.entry_in-entry.result.count, c.entry_in-entry.ensures.count)

pub loop-k-preserved : goal.loop-k-preserved
loop-k-preserved c = let o = c.loop-k in
    let e = c.entry_in-entry in
    let b = c.args.b.now in
    let is = entry-got _ _ _ e.ensures (omega arith) in
    let s = layout-body _ _ c.layout-rule.ensures e.result.count in (
      omega (arith, s, o.invariant.0, size_step b c.byte_at-lists.result o.k (omega arith) e.result is (format_in b)),
      o.invariant.1 ∙ place-on b _ o.k _ _ _ (omega arith) e.result is _ c.if-entry-id.false s.0,
    )

pub returns : goal.returns
returns c = let o = c.loop-k in
    (sym (o.invariant.1 ∙ place_end _ _ o.k _ _ _ (omega arith)), tt)
