-- What looking for a list's body promises inside the library.
use Rattle.std.specs.Prelude.{◌≡◌, ℕ, ◌+◌, ◌*◌, ◌<◌, ◌≤◌, List, length, Some, Result, MatchResult}
use Rattle.rules.specs.declared.Refusal.{Refusal}
use Rattle.rules.specs.Replies.{passed, refusal_reply}
use Rattle.image_form.specs.Formats.{rule_size}
use Rattle.image_form.specs.Images.{format_in}
use Rattle.image.specs.declared.places.Place.{Place}
use Rattle.image.specs.Places.{place_of}
use Rattle.image.specs.Calls.{id_check}

-- The body at this place is within the image.
pub record Stands (bs : List ℕ) (p : Place) : Type 0 where
  pub few : p.count < 65536
  pub within : p.from + rule_size (format_in bs) * p.count ≤ length bs

-- A list that was found: nothing is refused, and its body stands at this place.
pub record FoundAt (bs : List ℕ) (id : ℕ) (p : Place) : Type 0 where
  pub checked : id_check bs id ≡ passed
  pub place : place_of bs id ≡ Some p
  pub stands : Stands bs p

-- The place of a list's body, or the refusal that is given for it.
abbrev pub Found : (bs : List ℕ) (id : ℕ) → Result Place Refusal → Type 0
Found bs id r = MatchResult r (FoundAt bs id) (λ x. id_check bs id ≡ refusal_reply x)
