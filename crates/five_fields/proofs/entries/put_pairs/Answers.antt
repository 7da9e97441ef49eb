use Rattle.five_fields.proofs.PutLaws.{putting-some, putting-none, pairs_next, pairs-none, inside-length}
use Rattle.five_fields.proofs.ListLaws.{row_within, row_next}
use Rattle.five_fields.specs.FiveFieldRule.{rule_of}
use Rattle.rules.proofs.SliceLaws.{kept-lent}
use lib.ListN.{length, get_or}
use native.Mathlib.Omega.{arith}
use Rattle.five_fields.proofs.entries.put_pairs.Goals as goal

pub put_inside-requires : goal.put_inside-requires
put_inside-requires c = let o = c.loop-i in
    let w = row_within o.i (length c.args.source_cares.now) (length c.args.cares.now) c.loop-i-test.true in
    (c.requires.0, c.requires.2, omega (arith, w, c.requires.3, o.invariant.kept.decisions), kept-lent _ _ _ _ _ _ o.invariant.kept c.requires.4)

pub loop-i-preserved : goal.loop-i-preserved
loop-i-preserved c = let o = c.loop-i in
    let a = c.args in
    let n = inside-length (rule_of a.rule) (get_or a.source_cares.now o.i 0) (get_or a.source_values.now o.i 0) a.cares.now a.values.now c.requires.2 in
    putting-some _ _ _ _ _ _ _ _ _ _ _ _ _ _ _ (pairs_next _ _ _ _ _ o.i c.loop-i-test.true c.requires.1) o.invariant c.put_inside.ensures _ (omega (arith, row_next o.i (length a.cares.now), n))

pub returns : goal.returns
returns c = let o = c.loop-i in
    putting-none _ _ _ _ _ _ _ _ _ _ (pairs-none _ _ _ _ _ o.i c.loop-i-test.false) o.invariant
