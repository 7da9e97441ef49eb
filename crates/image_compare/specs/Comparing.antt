-- What the comparison of lists of two images replies and leaves: each image's checks in document 01's order, then as the
-- comparison of the two lists (01, Image; Refusal numbers, 15 and 16; the bench program; the defaults by request 04).
use Rattle.std.specs.Prelude.{ℕ, List, [], ◌∷◌, eqb, length, Option, Result}
use Rattle.rules.specs.Rule.{Rule}
use Rattle.rules.specs.Rules.{answer}
use Rattle.rules.specs.declared.Refusal.{Refusal}
use Rattle.rules.specs.Replies.{Reply, need, ◌then◌}
use Rattle.compare_check.specs.Outcomes.{outcome}
use Rattle.compare_check.specs.Checks.{portion_check, default_check}
use Rattle.compare.specs.declared.Compared.{Compared}
use Rattle.compare.specs.Runs.{differences}
use Rattle.compare.specs.Calls.{PortionDone}
use Rattle.image_form.specs.Images.{Named, width_in, lists_of}
use Rattle.image_check.specs.Checks.{image_check}
use Rattle.image.specs.Places.{list_with}
use Rattle.image.specs.Calls.{id_check}

-- The rules of the first of some lists; none where there is no list.
unfoldable pub rules_of_first : List Named → List Rule
rules_of_first [] = []
rules_of_first (x ∷ xs) = x.rules

-- The rules of an image's first list.
unfoldable pub first_rules : List ℕ → List Rule
first_rules bs = rules_of_first (lists_of bs)

-- Comparing two lists by their ids: all checks of the old image and 15 of its list, the same of the new image, then 16: the
-- widths differ; then 6 of the start, 2 of the four result slices, 7. The formats may differ.
unfoldable pub compare_lists_check : (old : List ℕ) → (old_id : ℕ) → (new : List ℕ) → (new_id : ℕ) → (start : ℕ) → (firsts lasts olds news : ℕ) → Reply
compare_lists_check old i new j start a b c d =
    id_check old i
    then id_check new j
    then need (eqb (width_in old) (width_in new)) 16 0 0
    then portion_check (width_in old) start a b c d

-- Comparing the first lists: an image that passed has one, so there is no 15.
unfoldable pub compare_first_check : (old new : List ℕ) → (start : ℕ) → (firsts lasts olds news : ℕ) → Reply
compare_first_check old new start a b c d =
    image_check old
    then image_check new
    then need (eqb (width_in old) (width_in new)) 16 0 0
    then portion_check (width_in old) start a b c d

-- The promise of comparing two lists by their ids.
abbrev pub ListsCompared : (old : List ℕ) → (old_id : ℕ) → (new : List ℕ) → (new_id : ℕ) → (start : ℕ)
    → (first last olds news first' last' olds' news' : List ℕ) → Result Compared Refusal → Type 0
ListsCompared old i new j start first last olds news first' last' olds' news' r =
    PortionDone (compare_lists_check old i new j start (length first) (length last) (length olds) (length news))
    (differences (width_in old) (answer (list_with old i)) (answer (list_with new j)) start) first last olds news first' last' olds' news' r

-- The promise of comparing the first lists.
abbrev pub FirstCompared : (old new : List ℕ) → (start : ℕ) → (first last olds news first' last' olds' news' : List ℕ) → Result Compared Refusal → Type 0
FirstCompared old new start first last olds news first' last' olds' news' r =
    PortionDone (compare_first_check old new start (length first) (length last) (length olds) (length news))
    (differences (width_in old) (answer (first_rules old)) (answer (first_rules new)) start) first last olds news first' last' olds' news' r

-- ---- with a default or none on each side

-- As `compare_lists_check`, with the defaults of the two sides after 16: a default is tested once there are two lists of one width.
unfoldable pub list_outcomes_check : (old : List ℕ) → (old_id : ℕ) → (old_default : Option ℕ) → (new : List ℕ) → (new_id : ℕ) → (new_default : Option ℕ)
    → (start : ℕ) → (firsts lasts olds news : ℕ) → Reply
list_outcomes_check old i old_default new j new_default start a b c d =
    id_check old i
    then id_check new j
    then need (eqb (width_in old) (width_in new)) 16 0 0
    then default_check 1 old_default
    then default_check 2 new_default
    then portion_check (width_in old) start a b c d

-- As `compare_first_check`, likewise.
unfoldable pub first_outcomes_check : (old : List ℕ) → (old_default : Option ℕ) → (new : List ℕ) → (new_default : Option ℕ)
    → (start : ℕ) → (firsts lasts olds news : ℕ) → Reply
first_outcomes_check old old_default new new_default start a b c d =
    image_check old
    then image_check new
    then need (eqb (width_in old) (width_in new)) 16 0 0
    then default_check 1 old_default
    then default_check 2 new_default
    then portion_check (width_in old) start a b c d

-- The promise of comparing the outcomes of two lists by their ids.
abbrev pub ListOutcomesCompared : (old : List ℕ) → (old_id : ℕ) → (old_default : Option ℕ) → (new : List ℕ) → (new_id : ℕ) → (new_default : Option ℕ) → (start : ℕ)
    → (first last olds news first' last' olds' news' : List ℕ) → Result Compared Refusal → Type 0
ListOutcomesCompared old i old_default new j new_default start first last olds news first' last' olds' news' r =
    PortionDone (list_outcomes_check old i old_default new j new_default start (length first) (length last) (length olds) (length news))
    (differences (width_in old) (outcome old_default (list_with old i)) (outcome new_default (list_with new j)) start)
    first last olds news first' last' olds' news' r

-- The promise of comparing the outcomes of the first lists.
abbrev pub FirstOutcomesCompared : (old : List ℕ) → (old_default : Option ℕ) → (new : List ℕ) → (new_default : Option ℕ) → (start : ℕ)
    → (first last olds news first' last' olds' news' : List ℕ) → Result Compared Refusal → Type 0
FirstOutcomesCompared old old_default new new_default start first last olds news first' last' olds' news' r =
    PortionDone (first_outcomes_check old old_default new new_default start (length first) (length last) (length olds) (length news))
    (differences (width_in old) (outcome old_default (first_rules old)) (outcome new_default (first_rules new)) start)
    first last olds news first' last' olds' news' r
