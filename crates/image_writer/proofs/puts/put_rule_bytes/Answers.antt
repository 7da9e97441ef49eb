use Rattle.image_form.proofs.FormatLaws.{rule-words, layout-word}
use Rattle.image_form.specs.Formats.{word_bytes}
use Rattle.image_writer.proofs.PutLaws.{put-number, put_three}
use Rattle.std.specs.Int.{w16}
use mathlib.Core.Path.{ap}
use lib.ListN.{length}
use Prim.Native.Nat.{◌+◌}
use native.Mathlib.Omega.{arith}
use Rattle.image_writer.proofs.puts.put_rule_bytes.Goals as goal

pub put_word-requires : goal.put_word-requires
put_word-requires c = omega (arith, rule-words c.args.format)

pub overflow_add-at : goal.overflow_add-at
overflow_add-at c = omega (arith, rule-words c.args.format, layout-word _ _ c.layout-size.ensures)

pub put_word-requires-2 : goal.put_word-requires-2
put_word-requires-2 c = omega (arith, rule-words c.args.format, layout-word _ _ c.layout-size.ensures, c.put_word.auto.out)

pub overflow_add-at-2 : goal.overflow_add-at-2
overflow_add-at-2 c = omega (arith, rule-words c.args.format, layout-word _ _ c.layout-size.ensures)

pub overflow_add-at-3 : goal.overflow_add-at-3
overflow_add-at-3 c = omega (arith, rule-words c.args.format, layout-word _ _ c.layout-size.ensures)

pub put-requires : goal.put-requires
put-requires c = omega (arith, rule-words c.args.format, layout-word _ _ c.layout-size.ensures, c.put_word.auto.out, c.put_word-2.auto.out, ap length c.to_le_bytes.ensures)

pub returns : goal.returns
returns c = let w = c.layout-size.result.word in
    let e = layout-word _ _ c.layout-size.ensures in
    let size = word_bytes c.args.format in
    put_three size size 2 c.args.out.now _ _ _ c.args.at (c.args.at + w) (c.args.at + w + w) _ _ _ (omega (arith, rule-words c.args.format, c.requires)) (omega arith) (omega arith)
    c.put_word.ensures c.put_word-2.ensures (put-number w16 _ _ _ _ _ c.put.ensures c.to_le_bytes.ensures)
