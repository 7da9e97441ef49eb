use mathlib.Core.Path.{ap}
use Prim.Native.Nat.{ℕ, ◌+◌, ◌*◌}
use Rattle.image_form.specs.Formats.{rule_size}
use Rattle.image_form.proofs.FormatLaws.{times-less, layout-rule}
use Rattle.image_form.proofs.PartLaws.{rule-got}
use native.Mathlib.Omega.{arith}
use Rattle.image.proofs.SeekLaws.{filling-start, filling-turn, filling-end}
use Rattle.image.proofs.reading.fill.Goals as goal

pub loop-i-init : goal.loop-i-init
loop-i-init c = filling-start _ _ _ _ _ _

pub loop-i-preserved : goal.loop-i-preserved
loop-i-preserved c = let o = c.loop-i in
    let s = ap (λ (k : ℕ). c.args.from + k * o.i) (layout-rule _ _ c.layout-rule.ensures) in
    filling-turn _ c.args.b.now c.args.from _ o.i _ _ _ _ _ _ _ _ _ _ (omega arith) c.requires.2 o.invariant s
    (rule-got _ _ _ _ c.rule_in-r.ensures (omega (arith, s, times-less (rule_size c.args.format) c.args.count o.i (omega arith)))) c.put_rule.ensures

pub shape_of-care : goal.shape_of-care
shape_of-care c = c.loop-i.invariant.kept.cares

pub shape_of-value : goal.shape_of-value
shape_of-value c = c.loop-i.invariant.kept.values

pub shape_of-decision : goal.shape_of-decision
shape_of-decision c = c.loop-i.invariant.kept.decisions

pub returns : goal.returns
returns c = let o = c.loop-i in
    filling-end _ _ _ o.i _ _ _ _ _ _ _ (omega arith) o.invariant
