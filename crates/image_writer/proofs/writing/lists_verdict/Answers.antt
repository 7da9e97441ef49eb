use mathlib.Core.Path.{◌≡◌, refl, sym, ◌∙◌}
use Prim.Native.Nat.{◌+◌, ◌*◌}
use native.Mathlib.Omega.{arith}
use lib.ListN.{length}
use Rattle.rules.proofs.ReplyLaws.{passed-up}
use Rattle.image_writer.proofs.GivenLaws.{sum-turn, names-small, cut-stop, cut-pass, cut-end}
use native.Mathlib.Nat.{add-sub_cancel_left}
use Rattle.image_writer.proofs.writing.lists_verdict.Goals as goal

pub slice_bounds-list-end : goal.slice_bounds-list-end
slice_bounds-list-end c = omega (arith, c.loop-i.invariant.0, sum-turn c.args.counts.now c.loop-i.i (omega arith), c.from.ensures, c.requires.4.decisions, c.requires.4.values)

pub returns-in_err-check_list_as : goal.returns-in_err-check_list_as
returns-in_err-check_list_as c = let o = c.loop-i in
    let a = c.args in
    let n = a.counts.now in
    let l : length n ≡ length a.ids.now = c.requires.2 in
    let s = sum-turn n o.i (omega arith) in
    let small = names-small 1 0 a.ids.now n o.i l c.requires.5 in
    let k = c.from.result in
    passed-up _ _ _ c.from_residual.ensures.1
    ∙ sym (o.invariant.1 ∙ cut-stop _ o.i o.from k (o.from + k) (o.from * 2) ((o.from + k) * 2) a.ids.now n a.rules.care.now a.rules.value.now a.rules.decision.now (omega arith) l c.from.ensures c.requires.0 c.requires.1 c.requires.4
    (omega (arith, o.invariant.0, s, c.from.ensures)) (omega (arith, small, c.from.ensures)) (add-sub_cancel_left o.from k) refl (omega arith) c.in_err-check_list_as.field-0.0 c.in_err-check_list_as.ensures)

pub loop-i-preserved : goal.loop-i-preserved
loop-i-preserved c = let o = c.loop-i in
    let a = c.args in
    let n = a.counts.now in
    let l : length n ≡ length a.ids.now = c.requires.2 in
    let s = sum-turn n o.i (omega arith) in
    let small = names-small 1 0 a.ids.now n o.i l c.requires.5 in
    let k = c.from.result in (
      omega (arith, o.invariant.0, s, c.from.ensures),
      o.invariant.1 ∙ cut-pass _ o.i o.from k (o.from + k) (o.from * 2) ((o.from + k) * 2) a.ids.now n a.rules.care.now a.rules.value.now a.rules.decision.now (omega arith) l c.from.ensures c.requires.0 c.requires.1 c.requires.4
          (omega (arith, o.invariant.0, s, c.from.ensures)) (omega (arith, small, c.from.ensures)) (add-sub_cancel_left o.from k) refl (omega arith) refl c.in_ok-check_list_as.ensures,
    )

pub returns : goal.returns
returns c = sym (c.loop-i.invariant.1 ∙ cut-end _ c.loop-i.i _ _ _ (omega arith))
