use Rattle.text.proofs.DecimalLaws.{none-put, word-digits, tenth-digits, some-digit, next-put}
use lib.ListN.{length-set}
use native.Mathlib.Omega.{arith}
use mathlib.Core.Path.{refl, sym, ap, ◌∙◌}
use Rattle.text.specs.Decimal.{decimal}
use Rattle.text.proofs.decimal.digits_at_end.Goals as goal

pub loop-rest-init : goal.loop-rest-init
loop-rest-init c = let n = c.number-rest in
    (omega arith, omega arith, c.requires, rw n.ensures (word-digits c.args.number (omega arith) (omega arith)), none-put n.result c.args.space.now c.requires)

pub loop-rest-preserved : goal.loop-rest-preserved
loop-rest-preserved c = let o = c.loop-rest in
    let t = tenth-digits _ o.at o.invariant.3 o.invariant.0 in
    (some-digit _ _ t (λ e. omega arith), omega arith, length-set o.space _ _ ∙ o.invariant.2, omega (arith, t), o.invariant.4 ∙ next-put o.space _ o.at _ (omega arith) o.invariant.0 refl _ (omega arith) (λ e. omega arith))

pub returns : goal.returns
returns c = let o = c.loop-rest in
    let d = c.digits_before.ensures in
    (d.0, d.1, d.2 ∙ sym o.invariant.4 ∙ ap decimal c.number-rest.ensures)
