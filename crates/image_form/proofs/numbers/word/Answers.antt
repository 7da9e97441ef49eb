use mathlib.Core.Path.{◌≡◌, ap, ◌∙◌}
use lib.ListN.{length, drop, length-drop}
use lib.Seq.{take_all, length-take-le}
use native.Mathlib.Omega.{arith}
use Rattle.image_form.specs.Bytes.{le}
use Rattle.image_form.proofs.FormatLaws.{word-least, word-one, word_two}
use Rattle.image_form.proofs.NumberLaws.{halves-split, le-past}
use Rattle.image_form.proofs.numbers.word.Goals as goal

pub slice_bounds-number-end : goal.slice_bounds-number-end
slice_bounds-number-end c = omega (arith, length-take-le 8 c.args.bytes.now (omega (arith, c.requires, word-least c.args.format)), c.requires, word-least c.args.format)

pub slice_bounds-number-end-2 : goal.slice_bounds-number-end-2
slice_bounds-number-end-2 c = omega (arith, c.requires, word_two c.args.format c.if-format-eq1.false)

pub returns-then-format-eq1 : goal.returns-then-format-eq1
returns-then-format-eq1 c =
    let e : length c.args.bytes.now ≡ 8 = c.requires ∙ word-one c.args.format c.if-format-eq1.true in
    halves-split c.args.bytes.now _ _ (omega (arith, e)) c.number-low.ensures.0 (omega arith) (le-past 8 c.args.bytes.now (omega (arith, e)))

pub returns : goal.returns
returns c =
    let e : length c.args.bytes.now ≡ 16 = c.requires ∙ word_two c.args.format c.if-format-eq1.false in
    halves-split c.args.bytes.now _ _ (omega (arith, e)) c.number-low.ensures.0 (omega arith)
    (c.number-high.ensures.0 ∙ ap le (take_all 8 (drop 8 c.args.bytes.now) (omega (arith, e, length-drop 8 c.args.bytes.now))))
