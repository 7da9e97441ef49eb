use mathlib.Core.Path.{ap}
use native.Mathlib.Omega.{arith}
use lib.ListN.{length}
use Rattle.std.specs.Int.{w64}
use Rattle.image_form.proofs.FormatLaws.{word_two, word-least}
use Rattle.image_writer.proofs.PutLaws.{put-number, put-narrow, put-wide}
use Rattle.image_writer.proofs.puts.put_word.Goals as goal

pub put-requires : goal.put-requires
put-requires c = omega (arith, word-least c.args.format, ap length c.to_le_bytes.ensures)

pub put-requires-then-format-ne1 : goal.put-requires-then-format-ne1
put-requires-then-format-ne1 c = omega (arith, word_two _ c.if-format-ne1.true, c.put.auto.out, ap length c.to_le_bytes-then-format-ne1.ensures)

pub returns-then-format-ne1 : goal.returns-then-format-ne1
returns-then-format-ne1 c = let a = c.args in
    let wide = word_two _ c.if-format-ne1.true in
    put-wide _ a.out.now a.at a.word _ (put-number w64 _ _ _ _ _ c.put.ensures c.to_le_bytes.ensures) c.if-format-ne1.true (omega arith) (omega arith) _
    (put-number w64 _ _ _ _ _ c.put-then-format-ne1.ensures c.to_le_bytes-then-format-ne1.ensures)

pub returns-else-format-ne1 : goal.returns-else-format-ne1
returns-else-format-ne1 c = let a = c.args in put-narrow _ a.out.now a.at a.word _ (put-number w64 _ _ _ _ _ c.put.ensures c.to_le_bytes.ensures) c.if-format-ne1.false
