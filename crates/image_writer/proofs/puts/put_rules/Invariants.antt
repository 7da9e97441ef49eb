use Rattle.image_form.specs.Formats.{rule_size}
use mathlib.Core.Path.{◌≡◌}
use Prim.Native.Nat.{◌+◌, ◌*◌}
use lib.ListN.{length, drop}
use Rattle.rules.specs.Slices.{rules_in}
use Rattle.image_form.specs.Images.{rules_bytes}
use Rattle.image_writer.specs.Putting.{over}
use Rattle.image_writer.proofs.puts.put_rules.Given as goal

abbrev pub invariant-loop-i : goal.invariant-loop-i
invariant-loop-i l = (length l.out ≡ length l.initial.out)
    × (over l.out (l.from + rule_size l.format * l.i) (rules_bytes l.format (drop l.i (rules_in l.rules))) ≡ over l.initial.out l.from (rules_bytes l.format (rules_in l.rules)))
