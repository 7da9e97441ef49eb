-- The checks of a comparison in their order, with number and place (01, Refusal numbers; the defaults by request 04).
use Rattle.std.specs.Prelude.{ℕ, ◌*◌, List, ◌&&◌, ltb, eqb, Option, Some, None}
use Rattle.rules.specs.declared.RuleList.{RuleList}
use Rattle.rules.specs.Rules.{no_match}
use Rattle.rules.specs.Replies.{Reply, passed, need, ◌then◌}
use Rattle.rules.specs.Checks.{width_check, list_check, header_check, room_check}

-- Refusal 2 of the results: the two slices of headers differ in length, or are not twice as long as those of the answers.
unfoldable pub results_check : (firsts lasts olds news : ℕ) → Reply
results_check a b c d = need (eqb a b && (eqb a (c * 2) && eqb a (d * 2))) 2 0 0

-- What is checked last: 6 of the start, then unequal result slices (2), then 7: at least one place. Places are counted by the slices
-- of the answers.
unfoldable pub portion_check : (w start : ℕ) → (firsts lasts olds news : ℕ) → Reply
portion_check w start a b c d = header_check w start then results_check a b c d then room_check 1 c

-- The checks of a comparison of two lists: 1; 2 to 5 of the old list, which is list 1; 2 to 5 of the new one, list 2; then those.
unfoldable pub compare_check : (w : ℕ) → (oc ov od nc nv nd : List ℕ) → (start : ℕ) → (firsts lasts olds news : ℕ) → Reply
compare_check w oc ov od nc nv nd start a b c d =
    width_check w then list_check w 1 oc ov od then list_check w 2 nc nv nd then portion_check w start a b c d

-- Refusal 5 of a default: 65,535 is no decision. The place is the side and no rule.
unfoldable pub default_check : (side : ℕ) → Option ℕ → Reply
default_check side None = passed
default_check side (Some d) = need (ltb d no_match) 5 side 0

-- The checks where each side has a default or none: as above, with the old side's default and then the new side's after both lists.
unfoldable pub outcomes_check : (w : ℕ) → (oc ov od : List ℕ) → (old : Option ℕ) → (nc nv nd : List ℕ) → (new : Option ℕ)
    → (start : ℕ) → (firsts lasts olds news : ℕ) → Reply
outcomes_check w oc ov od old nc nv nd new start a b c d =
    width_check w
    then list_check w 1 oc ov od
    then list_check w 2 nc nv nd
    then default_check 1 old
    then default_check 2 new
    then portion_check w start a b c d

-- The same of two lists as they are lent.
abbrev pub outcomes_in : (w : ℕ) → (old : RuleList) → (old_default : Option ℕ) → (new : RuleList) → (new_default : Option ℕ)
    → (start : ℕ) → (firsts lasts olds news : ℕ) → Reply
outcomes_in w old od new nd start a b c d =
    outcomes_check w old.care.now old.value.now old.decision.now od new.care.now new.value.now new.decision.now nd start a b c d
