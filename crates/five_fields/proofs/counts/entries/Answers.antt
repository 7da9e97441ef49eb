use Rattle.five_fields.proofs.CountLaws.{sound-most, left-count, left-none}
use Rattle.five_fields.proofs.CheckLaws.{rules-sound, good-at, good-ports}
use Rattle.five_fields.specs.Expansion.{expansion}
use Rattle.five_fields.specs.FiveFieldRules.{ports_fit}
use Rattle.five_fields.specs.FiveFieldRule.{FiveFieldRule}
use lib.ListN.{length}
use native.Mathlib.Omega.{arith}
use mathlib.Core.Path.{◌≡◌, ap, ◌∙◌}
use Rattle.five_fields.specs.Slices.{rows, lent}
use Rattle.five_fields.proofs.counts.entries.Goals as goal

-- Equal rules become as many entries.
same-length : {r x : FiveFieldRule} → r ≡ x → length (expansion r) ≡ length (expansion x)
same-length e = ap (λ (y : FiveFieldRule). length (expansion y)) e

pub rule_count-n-requires : goal.rule_count-n-requires
rule_count-n-requires c =
    ap ports_fit c.rule_at.ensures ∙ good-ports 0 _ (good-at _ (rules-sound _ c.requires) _ c.loop-i-test.true)

pub overflow_add-n : goal.overflow_add-n
overflow_add-n c = let s = lent c.args.rules in
    let e = same-length c.rule_at.ensures in
    omega (arith, left-count s c.loop-i.i (rows s) c.loop-i-test.true, sound-most s c.requires)

pub loop-i-preserved : goal.loop-i-preserved
loop-i-preserved c = let s = lent c.args.rules in
    let e = same-length c.rule_at.ensures in
    omega (arith, left-count s c.loop-i.i (rows s) c.loop-i-test.true)

pub returns : goal.returns
returns c = let s = lent c.args.rules in
    omega (arith, left-none s c.loop-i.i (rows s) c.loop-i-test.false)
