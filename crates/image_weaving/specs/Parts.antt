-- What only the contracts inside the library cite: a list squeezed into lent slices, and the lists squeezed one after the other.
use Rattle.std.specs.Prelude.{◌≡◌, ℕ, ◌*◌, ◌≤◌, ◌<◌, List, [], ◌∷◌, length, take, Result, Ok}
use Rattle.rules.specs.Rule.{Rule}
use Rattle.rules.specs.Lists.{All}
use Rattle.rules.specs.Slices.{cares_of, values_of, decisions_of, Lent}
use Rattle.rules.specs.Replies.{Reply, Gives, passed, ◌then◌}
use Rattle.rules.specs.Checks.{Sound}
use Rattle.weaving.specs.declared.Tally.{Tally}
use Rattle.rules.specs.declared.Refusal.{Refusal}
use Rattle.rules.specs.declared.RuleList.{RuleList}
use Rattle.weaving.specs.Weave.{dropped, merges}
use Rattle.weaving.specs.Calls.{tally_values, woven_reply}
use Rattle.pruning.specs.Prune.{dropped as pruned_away}
use Rattle.image_form.specs.Images.{width_in, lists_of}
use Rattle.image_check.specs.Checks.{image_check}
use Rattle.image.specs.Places.{list_with}
use Rattle.image.specs.Calls.{id_check}
use Rattle.image_writer.specs.Writing.{sum_of, given}
use Rattle.image_weaving.specs.declared.Squeeze.{Squeeze}
use Rattle.image_weaving.specs.Squeezing.{squeezed, squeezed_lists}

-- ---- one list

-- The first places of three slices hold these rules, two entries of the care and of the value slice to a rule.
pub record HoldsRules (rs : List Rule) (cs vs ds : List ℕ) : Type 0 where
  pub cares : take (length rs * 2) cs ≡ cares_of rs
  pub values : take (length rs * 2) vs ≡ values_of rs
  pub decisions : take (length rs) ds ≡ decisions_of rs

-- Rules dropped and merges made: pruning merges nothing.
abbrev pub lost : Squeeze → (w : ℕ) → List Rule → List ℕ
lost Squeeze.Weave w rs = dropped rs ∷ merges w rs ∷ []
lost Squeeze.Prune w rs = pruned_away w rs ∷ 0 ∷ []

-- What squeezing a list counts: entries kept, rules dropped and merges made.
abbrev pub squeeze_counts : Squeeze → (w : ℕ) → List Rule → Reply
squeeze_counts z w rs = Gives (length (squeezed z w rs) ∷ lost z w rs)

-- A list that has passed its checks, and slices that belong together and have room for it.
pub record Ready (w : ℕ) (cs vs ds ocs ovs ods : List ℕ) : Type 0 where
  pub sound : Sound w cs vs ds
  pub lent : Lent ocs ovs ods
  pub room : length ds ≤ length ods

-- The same of a list as it is lent.
abbrev pub ReadyIn : ℕ → RuleList → (ocs ovs ods : List ℕ) → Type 0
ReadyIn w x ocs ovs ods = Ready w x.care.now x.value.now x.decision.now ocs ovs ods

-- What squeezing a list of these rules answers, and that the slices hold the squeezed list afterwards.
pub record RulesSqueezed (z : Squeeze) (w : ℕ) (rs : List Rule) (t : Tally) (cs vs ds : List ℕ) : Type 0 where
  pub counts : Gives (tally_values t) ≡ squeeze_counts z w rs
  pub held : HoldsRules (squeezed z w rs) cs vs ds

-- Slices that belong together and have room for the list with that id.
pub record RoomFor (bs : List ℕ) (id : ℕ) (cs vs ds : List ℕ) : Type 0 where
  pub lent : Lent cs vs ds
  pub room : image_check bs ≡ passed → length (list_with bs id) ≤ length ds

-- What squeezing that list answers, and what the slices hold afterwards where it is not refused: the squeezed list.
pub record ListSqueezed (z : Squeeze) (bs : List ℕ) (id : ℕ) (r : Result Tally Refusal) (cs vs ds : List ℕ) : Type 0 where
  pub reply : woven_reply r ≡ (id_check bs id then squeeze_counts z (width_in bs) (list_with bs id))
  pub held : (t : Tally) → r ≡ Ok t → HoldsRules (squeezed z (width_in bs) (list_with bs id)) cs vs ds

-- ---- list after list

-- An accepted image, and slices with room for as many lists and rules as an image has at most.
pub record RoomForAll (bs is ns cs vs ds : List ℕ) : Type 0 where
  pub accepted : image_check bs ≡ passed
  pub bytes : All (λ (b : ℕ). b < 256) bs
  pub ids : length is ≡ 16
  pub counts : length ns ≡ 16
  pub cares : length cs ≡ 7280
  pub values : length vs ≡ 7280
  pub decisions : length ds ≡ 3640

-- The first k lists of an image are squeezed: what the slices hold of them, up to rule number `end`, is what a writer is to be given.
pub record ListsSqueezed (z : Squeeze) (bs : List ℕ) (k end : ℕ) (ids ns cs vs ds : List ℕ) : Type 0 where
  pub fits : end ≤ 3640
  pub sums : sum_of (take k ns) ≡ end
  pub lists : given (take k ids) (take k ns) (take (end * 2) cs) (take (end * 2) vs) (take end ds)
      ≡ squeezed_lists z (width_in bs) (take k (lists_of bs))
