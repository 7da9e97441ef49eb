-- What a call that writes the lines of a comparison answers (01, the bench program: at most 1,000 runs, then the ending).
use Rattle.std.specs.Prelude.{◌≡◌, ℕ, ◌*◌, ◌≤◌, List, [], length, take, Option, None, Result}
use Rattle.words.specs.Slices.{halves_of}
use Rattle.rules.specs.declared.Refusal.{Refusal}
use Rattle.rules.specs.Replies.{Reply, Gives, ◌then◌, unless_refused}
use Rattle.compare_check.specs.Outcomes.{outcome}
use Rattle.compare.specs.declared.Compared.{Compared}
use Rattle.compare.specs.Runs.{Run, differences, portion, ending}
use Rattle.compare.specs.Calls.{ending_reply, counted}
use Rattle.image_form.specs.Images.{width_in}
use Rattle.image.specs.Places.{list_with}
use Rattle.image_compare.specs.Comparing.{first_rules, first_outcomes_check, list_outcomes_check}
use Rattle.run_lines.specs.declared.FilesCompared.{FilesCompared}

-- So many lines of runs at most.
abbrev pub room : ℕ
room = 1000

-- So many numbers hold the headers: two to a header.
abbrev pub numbers : ℕ
numbers = room * 2

-- The ending and the number of the lines of runs that were written, by the verdict of the checks and the runs that there are.
pub record Shown (check : Reply) (rs : List Run) (r : Result Compared Refusal) : Type 0 where
  pub reply : ending_reply r ≡ (check then Gives (halves_of (ending room rs)))
  pub count : counted r ≡ length (unless_refused check (portion room rs) [])

-- The first lists of two images, each with its default, from a header on.
abbrev pub FirstShown : (old : List ℕ) → (old_default : Option ℕ) → (new : List ℕ) → (new_default : Option ℕ) → (start : ℕ) → Result Compared Refusal → Type 0
FirstShown old old_default new new_default start r =
    Shown (first_outcomes_check old old_default new new_default start numbers numbers room room)
    (differences (width_in old) (outcome old_default (first_rules old)) (outcome new_default (first_rules new)) start) r

-- Two lists by their ids, likewise.
abbrev pub ListsShown : (old : List ℕ) → (old_id : ℕ) → (old_default : Option ℕ) → (new : List ℕ) → (new_id : ℕ) → (new_default : Option ℕ) → (start : ℕ) → Result Compared Refusal → Type 0
ListsShown old i old_default new j new_default start r =
    Shown (list_outcomes_check old i old_default new j new_default start numbers numbers room room)
    (differences (width_in old) (outcome old_default (list_with old i)) (outcome new_default (list_with new j)) start) r

-- The first lists of two files without defaults. No contract can say what files hold: what was read stands at the starts of the two
-- slices afterwards, the counts say how much that is, and the comparison is that of these bytes.
pub record FilesShown (old' new' : List ℕ) (r : FilesCompared) : Type 0 where
  pub olds : r.old ≤ length old'
  pub news : r.new ≤ length new'
  pub shown : FirstShown (take r.old old') None (take r.new new') None 0 r.compared
