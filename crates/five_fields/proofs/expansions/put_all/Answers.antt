use Rattle.five_fields.proofs.PutLaws.{expanding-room, expanding-next, expanding-done}
use Rattle.five_fields.proofs.CheckLaws.{rules-sound, good-at, good-fields, good-ports}
use Rattle.five_fields.specs.Slices.{lent}
use Rattle.five_fields.specs.FiveFieldRules.{fields_fit, ports_fit}
use Rattle.rules.proofs.SliceLaws.{kept-lent}
use native.Mathlib.Omega.{arith}
use mathlib.Core.Path.{ap, ◌∙◌}
use Rattle.five_fields.proofs.expansions.put_all.Goals as goal

pub put_expansion-at-requires : goal.put_expansion-at-requires
put_expansion-at-requires c = let s = lent c.args.rules in
    let o = c.loop-i in
    let e = c.rule_at.ensures in
    let l = c.loop-i-test.true in
    let g = good-at s (rules-sound s c.requires.0) o.i l in
    (ap fields_fit e ∙ good-fields 0 _ g, ap ports_fit e ∙ good-ports 0 _ g, omega (arith, c.requires.1, o.invariant.put.kept.decisions, expanding-room s _ _ _ o.i o.at _ _ _ o.invariant l _ e), kept-lent _ _ _ _ _ _ o.invariant.put.kept c.requires.2)

pub overflow_add-at : goal.overflow_add-at
overflow_add-at c =
    omega (arith, c.requires.1, c.put_expansion-at.ensures.0, expanding-room (lent c.args.rules) _ _ _ c.loop-i.i c.loop-i.at _ _ _ c.loop-i.invariant c.loop-i-test.true _ c.rule_at.ensures, c.well_formed)

pub loop-i-preserved : goal.loop-i-preserved
loop-i-preserved c = let s = lent c.args.rules in
    let o = c.loop-i in
    expanding-next s _ _ _ o.i o.at _ _ _ o.invariant c.loop-i-test.true _ c.rule_at.ensures _ c.put_expansion-at.ensures.0 _ _ _ c.put_expansion-at.ensures.1

pub returns : goal.returns
returns c = expanding-done _ _ _ _ _ _ _ _ _ c.loop-i.invariant c.loop-i-test.false
