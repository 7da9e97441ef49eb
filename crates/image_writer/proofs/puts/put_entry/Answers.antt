use mathlib.Core.Path.{refl}
use Rattle.std.specs.Int.{w16, w32}
use Rattle.image_writer.proofs.PutLaws.{put-number, put_three}
use Rattle.image_writer.proofs.puts.put_entry.Goals as goal

pub returns : goal.returns
returns c =
    put_three 4 2 2 c.args.out.now _ _ _ c.args.at _ _ _ _ _ c.requires refl refl
    (put-number w32 _ _ _ _ _ c.put.ensures c.to_le_bytes.ensures)
    (put-number w16 _ _ _ _ _ c.put-2.ensures c.to_le_bytes-2.ensures)
    (put-number w16 _ _ _ _ _ c.put-3.ensures c.to_le_bytes-3.ensures)
