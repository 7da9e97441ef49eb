use Rattle.image_form.proofs.FormatLaws.{layout-body}
use lib.ListN.{length}
use native.Mathlib.Omega.{arith}
use Rattle.image_writer.proofs.GivenLaws.{shape-narrow}
use Rattle.image_writer.proofs.WriteLaws.{counts-small, rules-few, wrote, written-refused, written}
use Rattle.image_writer.proofs.writing.write.Goals as goal

pub returns-in_err-write_verdict : goal.returns-in_err-write_verdict
returns-in_err-write_verdict c = written-refused _ _ _ _ _ _ _ _ _ _ c.from_residual.ensures.1 c.in_err-write_verdict.ensures

pub overflow_mul-from : goal.overflow_mul-from
overflow_mul-from c = let f = wrote _ _ _ _ _ _ _ _ c.in_ok-write_verdict.ensures in
    omega (arith, f.shape.few)

pub overflow_add-from : goal.overflow_add-from
overflow_add-from c = let f = wrote _ _ _ _ _ _ _ _ c.in_ok-write_verdict.ensures in
    omega (arith, f.shape.few)

pub put_head-requires : goal.put_head-requires
put_head-requires c = let f = wrote _ _ _ _ _ _ _ _ c.in_ok-write_verdict.ensures in
    (omega (arith, f.fits), shape-narrow _ _ _ _ _ _ _ f.shape, f.shape.few)

pub put_contents-requires : goal.put_contents-requires
put_contents-requires c = let f = wrote _ _ _ _ _ _ _ _ c.in_ok-write_verdict.ensures in
    (f.shape.paired, omega (arith, f.fits, c.put_head.auto.out), counts-small _ _ _ _ _ _ _ _ f)

pub put_rules-requires : goal.put_rules-requires
put_rules-requires c = let f = wrote _ _ _ _ _ _ _ _ c.in_ok-write_verdict.ensures in
    (omega (arith, f.fits, c.put_head.auto.out, c.put_contents.auto.out), f.shape.lent)

pub overflow_mul-result : goal.overflow_mul-result
overflow_mul-result c = let f = wrote _ _ _ _ _ _ _ _ c.in_ok-write_verdict.ensures in
    omega (arith, rules-few _ _ _ _ _ _ _ _ f, layout-body _ _ c.layout.ensures (length c.args.rules.decision.now))

pub overflow_add-result : goal.overflow_add-result
overflow_add-result c = let f = wrote _ _ _ _ _ _ _ _ c.in_ok-write_verdict.ensures in
    omega (arith, f.small, layout-body _ _ c.layout.ensures (length c.args.rules.decision.now))

pub returns : goal.returns
returns c = written _ _ _ _ _ _ _ _ c.in_ok-write_verdict.ensures _ (layout-body _ _ c.layout.ensures _).0 _ _ _ c.put_head.ensures c.put_contents.ensures c.put_rules.ensures
