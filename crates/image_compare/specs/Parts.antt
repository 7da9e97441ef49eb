-- What only the contracts inside the library cite: a list that was read out of an image.
use Rattle.std.specs.Prelude.{◌≡◌, ℕ, List, Result, MatchResult}
use Rattle.rules.specs.declared.Refusal.{Refusal}
use Rattle.rules.specs.declared.RuleList.{RuleList}
use Rattle.rules.specs.Slices.{rules_in}
use Rattle.rules.specs.Replies.{passed, refusal_reply}
use Rattle.rules.specs.Calls.{check_in}
use Rattle.image_form.specs.Images.{width_in}
use Rattle.image.specs.Places.{list_with}
use Rattle.image.specs.Calls.{id_check}

-- A list of an image that was read out: nothing is refused, it passes the checks of a list under any number, and its rules are those of the
-- list with that id.
pub record ListRead (bs : List ℕ) (id : ℕ) (x : RuleList) : Type 0 where
  pub checked : id_check bs id ≡ passed
  pub fine : (l : ℕ) → check_in (width_in bs) l x ≡ passed
  pub rules : rules_in x ≡ list_with bs id

-- The list, or the refusal that is given for it.
abbrev pub Read : (bs : List ℕ) → (id : ℕ) → Result RuleList Refusal → Type 0
Read bs id r = MatchResult r (ListRead bs id) (λ x. id_check bs id ≡ refusal_reply x)
