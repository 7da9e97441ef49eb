use mathlib.Core.List.{[]}
use mathlib.Core.Path.{sym, ap, ◌∙◌}
use Rattle.std.specs.Prelude.{Option, is_some}
use Rattle.rules.specs.Replies.{need}
use Rattle.image.specs.declared.places.Place.{Place}
use Rattle.rules.proofs.ReplyLaws.{then_next, then-stop}
use Rattle.image.specs.Calls.{id_check}
use Rattle.image.proofs.SeekLaws.{image-facts, found_at, found_none}
use Rattle.image.proofs.places.found.Goals as goal

pub returns-in_err-check : goal.returns-in_err-check
unfolding id_check
returns-in_err-check c = found_none _ _ _ _ c.from_residual.ensures.1 (then-stop _ _ c.in_err-check.field-0.0 (sym c.in_err-check.ensures))

pub find-place-requires : goal.find-place-requires
find-place-requires c = let f = image-facts _ [] (sym c.in_ok-check.ensures) in
    (f.head.least, f.head.most, f.sums)

pub returns-in_err-check_found : goal.returns-in_err-check_found
unfolding id_check
returns-in_err-check_found c =
    found_none _ _ _ _ c.from_residual-in_err-check_found.ensures.1 (then_next _ _ (sym c.in_ok-check.ensures) ∙ ap (λ (o : Option Place). need (is_some o) 15 0 0) (sym c.find-place.ensures.0) ∙ sym c.in_err-check_found.ensures)

pub returns : goal.returns
returns c = found_at _ _ _ _ (sym c.in_ok-check.ensures) c.find-place.ensures c.unwrap.ensures
