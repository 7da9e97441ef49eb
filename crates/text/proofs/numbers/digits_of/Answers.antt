use mathlib.Core.Path.{sym, ap, ◌∙◌}
use mathlib.Core.Bool.{Bool}
use native.Mathlib.Omega.{arith}
use Rattle.std.specs.Prelude.{Some, None}
use Rattle.text.specs.Numbers.{goes_on, number_if}
use Rattle.words.specs.Halves.{halves, limit}
use Rattle.text.proofs.NumberLaws.{no_digit, past-limit, one_more, no_more}
use Rattle.text.proofs.numbers.digits_of.Goals as goal

pub loop-b-init : goal.loop-b-init
loop-b-init c = ap (λ (t : Bool). number_if t None (goes_on limit c.args.base 0 c.args.bytes.now)) (sym c.is_empty.ensures ∙ c.if-is_empty.false)

pub returns-in_err-d : goal.returns-in_err-d
returns-in_err-d c = let o = c.loop-b in
    c.from_residual.ensures ∙ sym (o.invariant ∙ no_digit _ _ _ o.b-index _ c.loop-b-test.true c.in_err-d.ensures)

pub returns-in_err-n : goal.returns-in_err-n
returns-in_err-n c = let o = c.loop-b in
    let d = c.in_ok-d.ensures in
    c.from_residual-in_err-n.ensures ∙ sym (o.invariant ∙ past-limit _ _ _ o.b-index _ c.loop-b-test.true _ d.1 d.0 c.in_err-n.ensures)

pub loop-b-preserved : goal.loop-b-preserved
loop-b-preserved c = let o = c.loop-b in
    let d = c.in_ok-d.ensures in
    let e = c.in_ok-n.ensures in
    o.invariant ∙ one_more _ _ _ o.b-index _ c.loop-b-test.true _ d.1 d.0 _ e.1 e.0

pub returns : goal.returns
returns c = let o = c.loop-b in
    ap Some (c.word.ensures ∙ ap halves (omega arith)) ∙ sym (o.invariant ∙ no_more _ _ _ o.b-index _ c.loop-b-test.false)
