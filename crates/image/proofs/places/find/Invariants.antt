use mathlib.Core.Path.{◌≡◌}
use Prim.Native.Nat.{◌+◌, ◌*◌}
use lib.ListN.{length}
use Rattle.image_form.specs.Formats.{rule_size}
use Rattle.image_form.specs.Images.{format_in, total}
use Rattle.image_check.proofs.StepLaws.{entries_left}
use Rattle.image.specs.Places.{place_of, place_in}
use Rattle.image.proofs.places.find.Given as goal

abbrev pub invariant-loop-k : goal.invariant-loop-k
invariant-loop-k l =
    (l.from + rule_size (format_in l.b) * total (entries_left l.b l.lists l.k) ≡ length l.b)
    × (place_of l.b l.id ≡ place_in (format_in l.b) l.id l.from (entries_left l.b l.lists l.k))
