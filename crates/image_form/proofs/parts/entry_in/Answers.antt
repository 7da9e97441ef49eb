use mathlib.Core.Path.{refl, ap, ◌∙◌}
use lib.ListN.{length}
use native.Mathlib.Omega.{arith}
use Rattle.image_form.proofs.NumberLaws.{length_part}
use Rattle.image_form.proofs.PartLaws.{entry-made, entry-zeros}
use Rattle.image_form.proofs.parts.entry_in.Goals as goal

pub returns-in_default : goal.returns-in_default
returns-in_default c = entry-zeros _ _ _ (refl, (refl, refl)) c.in_default.ensures

pub first_four-offset-requires : goal.first_four-offset-requires
first_four-offset-requires c = let e = c.in-Some.ensures in omega (arith, ap length e.1 ∙ length_part _ _ _ e.0)

pub returns : goal.returns
returns c = let e = c.in-Some.ensures in
    entry-made _ _ _ e.0 e.1 _ _ _ c.first_four-offset.ensures c.number-count.ensures c.number-id.ensures
