use Rattle.image_form.proofs.FormatLaws.{layout-body}
use lib.ListN.{length}
use mathlib.Core.Path.{sym}
use native.Mathlib.Omega.{arith}
use Rattle.image_writer.proofs.GivenLaws.{shape-facts, shape-narrow, names-sum}
use Rattle.image_writer.proofs.writing.write_verdict.Goals as goal

pub names_verdict-requires : goal.names_verdict-requires
names_verdict-requires c = (shape-facts _ _ _ _ _ _ _ (sym c.in_ok-shape_verdict.ensures)).paired

pub lists_verdict-requires : goal.lists_verdict-requires
lists_verdict-requires c = let s = shape-facts _ _ _ _ _ _ _ (sym c.in_ok-shape_verdict.ensures) in
    (s.least, shape-narrow _ _ _ _ _ _ _ s, s.paired, s.sums, s.lent, sym c.in_ok-names_verdict.ensures)

pub overflow_mul-size : goal.overflow_mul-size
overflow_mul-size c = let s = shape-facts _ _ _ _ _ _ _ (sym c.in_ok-shape_verdict.ensures) in
    omega (arith, s.few)

pub overflow_add-size : goal.overflow_add-size
overflow_add-size c = let s = shape-facts _ _ _ _ _ _ _ (sym c.in_ok-shape_verdict.ensures) in
    omega (arith, s.few)

pub overflow_mul-size-2 : goal.overflow_mul-size-2
overflow_mul-size-2 c = let s = shape-facts _ _ _ _ _ _ _ (sym c.in_ok-shape_verdict.ensures) in
    let n = names-sum 1 0 _ _ s.paired (sym c.in_ok-names_verdict.ensures) in
    let z = layout-body _ _ c.layout.ensures (length c.args.rules.decision.now) in
    omega (arith, s.few, s.sums, n, z)

pub overflow_add-size-2 : goal.overflow_add-size-2
overflow_add-size-2 c = let s = shape-facts _ _ _ _ _ _ _ (sym c.in_ok-shape_verdict.ensures) in
    let n = names-sum 1 0 _ _ s.paired (sym c.in_ok-names_verdict.ensures) in
    let z = layout-body _ _ c.layout.ensures (length c.args.rules.decision.now) in
    omega (arith, s.few, s.sums, n, z)
