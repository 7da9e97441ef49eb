use lib.ListN.{length}
use lib.Seq.{take_all, length-take-le}
use mathlib.Core.Path.{◌≡◌, ap, ◌∙◌}
use native.Mathlib.Omega.{arith}
use Rattle.image_form.specs.Bytes.{le}
use Rattle.image_form.proofs.FormatLaws.{rule-words, layout-word}
use Rattle.image_form.proofs.NumberLaws.{rule-from}
use Rattle.image_form.proofs.numbers.rule_here.Goals as goal

pub split_at-requires : goal.split_at-requires
split_at-requires c = omega (arith, rule-words c.args.format, layout-word _ _ c.layout-size.ensures)

pub split_at-requires-2 : goal.split_at-requires-2
split_at-requires-2 c = omega (arith, rule-words c.args.format, layout-word _ _ c.layout-size.ensures)

pub word-requires : goal.word-requires
word-requires c = omega (arith, rule-words c.args.format, layout-word _ _ c.layout-size.ensures)

pub word-requires-2 : goal.word-requires-2
word-requires-2 c = omega (arith, rule-words c.args.format, layout-word _ _ c.layout-size.ensures)

pub slice_bounds-number-end : goal.slice_bounds-number-end
slice_bounds-number-end c =
    let two : length c.split_at-2.result.1.now ≡ 2 = omega (arith, rule-words c.args.format, layout-word _ _ c.layout-size.ensures) in
    omega (arith, two, length-take-le 2 c.split_at-2.result.1.now (omega (arith, two)))

pub number-requires : goal.number-requires
number-requires c =
    let two : length c.split_at-2.result.1.now ≡ 2 = omega (arith, rule-words c.args.format, layout-word _ _ c.layout-size.ensures) in
    omega (arith, length-take-le 2 c.split_at-2.result.1.now (omega (arith, two)))

pub overflow_cast-result : goal.overflow_cast-result
overflow_cast-result c =
    let two : length c.split_at-2.result.1.now ≡ 2 = omega (arith, rule-words c.args.format, layout-word _ _ c.layout-size.ensures) in
    omega (arith, rw (length-take-le 2 c.split_at-2.result.1.now (omega (arith, two))) at c.number.ensures.1)

pub returns : goal.returns
returns c =
    let s = c.split_at.ensures in
    let t = c.split_at-2.ensures in
    let two : length c.split_at-2.result.1.now ≡ 2 = omega (arith, rule-words c.args.format, layout-word _ _ c.layout-size.ensures) in
    rule-from c.args.format _ c.args.bytes.now (layout-word _ _ c.layout-size.ensures) c.requires _ _ _ _ _ _ _ s.front s.back t.front t.back c.word.ensures
    c.word-2.ensures (c.number.ensures.0 ∙ ap le (take_all 2 c.split_at-2.result.1.now (omega (arith, two))))
