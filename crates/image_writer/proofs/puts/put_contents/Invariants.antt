use Rattle.image_form.specs.Formats.{rule_size}
use mathlib.Core.Path.{◌≡◌}
use Prim.Native.Nat.{◌+◌, ◌*◌, ◌≤◌}
use lib.ListN.{length, drop}
use Rattle.image_form.specs.Images.{contents_bytes}
use Rattle.image_writer.specs.Writing.{sum_of}
use Rattle.image_writer.specs.Putting.{over, entries_given}
use Rattle.image_writer.proofs.puts.put_contents.Given as goal

abbrev pub invariant-loop-i : goal.invariant-loop-i
invariant-loop-i l = (length l.out ≡ length l.initial.out) × (l.next + rule_size l.format * sum_of (drop l.i l.counts) ≤ 65536)
    × (over l.out (4 + 8 * l.i) (contents_bytes (entries_given l.format l.next (drop l.i l.ids) (drop l.i l.counts)))
    ≡ over l.initial.out 4 (contents_bytes (entries_given l.format (4 + 8 * length l.ids) l.ids l.counts)))
