use mathlib.Core.Path.{refl, sym, ◌∙◌}
use native.Mathlib.Omega.{arith}
use Rattle.rules.proofs.ReplyLaws.{stop-up, then_next}
use Rattle.image_form.specs.Images.{format_in}
use Rattle.image_form.proofs.FormatLaws.{layout-body}
use Rattle.image_form.proofs.PartLaws.{entry-got}
use Rattle.image_check.proofs.StepLaws.{lists-turn, lists-end, size_step, total-start, bodies-start}
use Rattle.image_check.proofs.checks.bodies.Goals as goal

pub loop-k-init : goal.loop-k-init
loop-k-init c = (
  total-start c.args.b.now _ _ c.byte_at-lists.ensures.0 (omega arith) c.requires.4,
  bodies-start c.args.b.now _ _ _ c.byte_at-width.ensures.0 c.byte_at-lists.ensures.0 (omega arith),
)

pub rules_at-requires : goal.rules_at-requires
rules_at-requires c = let o = c.loop-k in
    let e = c.entry_in-count in
    (omega (arith, o.invariant.0, size_step c.args.b.now c.byte_at-lists.result o.k (omega arith) e.result (entry-got _ _ _ e.ensures (omega arith)) (format_in c.args.b.now)), omega (arith, e.ensures.count), omega arith, omega arith)

pub returns-in_err-rules_at : goal.returns-in_err-rules_at
returns-in_err-rules_at c = let o = c.loop-k in
    let e = c.entry_in-count in
    stop-up _ _ _ _ _ c.from_residual.ensures.1 c.in_err-rules_at.ensures
    ∙ sym (o.invariant.1 ∙ lists-turn c.args.b.now _ o.k (omega arith) e.result (entry-got _ _ _ e.ensures (omega arith)) _ _ refl _ _)

pub overflow_mul-from-in-loop-k : goal.overflow_mul-from-in-loop-k
overflow_mul-from-in-loop-k c = omega (arith, layout-body _ _ c.layout-rule.ensures c.entry_in-count.result.count, c.entry_in-count.ensures.count)

pub overflow_add-from-in-loop-k : goal.overflow_add-from-in-loop-k
overflow_add-from-in-loop-k c = omega (arith, layout-body _ _ c.layout-rule.ensures c.entry_in-count.result.count, c.entry_in-count.ensures.count)

pub loop-k-preserved : goal.loop-k-preserved
loop-k-preserved c = let o = c.loop-k in
    let e = c.entry_in-count in
    let b = c.args.b.now in
    let s = layout-body _ _ c.layout-rule.ensures e.result.count in (
      omega (arith, s, o.invariant.0, size_step b c.byte_at-lists.result o.k (omega arith) e.result (entry-got _ _ _ e.ensures (omega arith)) (format_in b)),
      o.invariant.1 ∙ lists-turn b _ o.k (omega arith) e.result (entry-got _ _ _ e.ensures (omega arith)) _ _ s.0 _ _ ∙ then_next _ _ (sym c.in_ok-rules_at.ensures),
    )

pub returns : goal.returns
returns c = let o = c.loop-k in
    sym (o.invariant.1 ∙ lists-end c.args.b.now _ o.k (omega arith) _ _ _)
