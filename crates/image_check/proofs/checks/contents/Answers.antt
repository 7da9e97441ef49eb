use mathlib.Core.Path.{refl, sym, ◌∙◌}
use native.Mathlib.Omega.{arith}
use Rattle.rules.proofs.ReplyLaws.{stop-up, then_next, need-yes, need-no}
use borrow.Author.Tests.{eq-eqb, ne_eqb}
use Rattle.image_form.proofs.FormatLaws.{layout-body}
use Rattle.image_form.proofs.PartLaws.{entry-got}
use Rattle.image_check.proofs.StepLaws.{entries-turn, entries-end, next_fits, contents-start}
use Rattle.image_check.proofs.checks.contents.Goals as goal

pub loop-k-init : goal.loop-k-init
loop-k-init c = (omega arith, contents-start _ _ _ c.byte_at-lists.ensures.0 (omega arith))

pub returns-in_err-entry_verdict : goal.returns-in_err-entry_verdict
returns-in_err-entry_verdict c = let o = c.loop-k in
    let e = c.entry_in-entry in
    stop-up _ _ _ _ _ c.from_residual.ensures.1 c.in_err-entry_verdict.ensures
    ∙ sym (o.invariant.1 ∙ entries-turn _ _ o.k (omega arith) e.result (entry-got _ _ _ e.ensures (omega arith)) _ _ refl _ _ _)

pub overflow_mul-next-in-loop-k : goal.overflow_mul-next-in-loop-k
overflow_mul-next-in-loop-k c = omega (arith, layout-body _ _ c.layout-rule.ensures c.entry_in-entry.result.count, c.entry_in-entry.ensures.count)

pub overflow_add-next-in-loop-k : goal.overflow_add-next-in-loop-k
overflow_add-next-in-loop-k c = omega (arith, layout-body _ _ c.layout-rule.ensures c.entry_in-entry.result.count, c.entry_in-entry.ensures.count)

pub loop-k-preserved : goal.loop-k-preserved
loop-k-preserved c = let o = c.loop-k in
    let e = c.entry_in-entry in
    let s = layout-body _ _ c.layout-rule.ensures e.result.count in (
      omega (arith, s, next_fits _ _ _ _ _ _ c.in_ok-entry_verdict.ensures),
      o.invariant.1 ∙ entries-turn _ _ o.k (omega arith) e.result (entry-got _ _ _ e.ensures (omega arith)) _ _ s.0 _ _ _ ∙ then_next _ _ (sym c.in_ok-entry_verdict.ensures),
    )

pub returns-then-next-b : goal.returns-then-next-b
returns-then-next-b c = let o = c.loop-k in
    c.refused.ensures ∙ sym (o.invariant.1 ∙ entries-end _ _ o.k (omega arith) _ _ _ _ ∙ need-no _ _ _ _ (ne_eqb _ _ c.if-next-b.true))

pub returns : goal.returns
returns c = let o = c.loop-k in
    sym (o.invariant.1 ∙ entries-end _ _ o.k (omega arith) _ _ _ _ ∙ need-yes _ _ _ _ (eq-eqb _ _ c.if-next-b.false))
