-- What a comparison with room for 1,000 runs left is what its lines say.
use mathlib.Core.Path.{◌≡◌, ap₂, ◌∙◌, subst}
use Prim.Native.Nat.{ℕ}
use mathlib.Core.List.{List, []}
use lib.ListN.{length, replicate, length-replicate}
use Rattle.words.specs.declared.Word.{Word}
use Rattle.words.specs.Halves.{num, halves}
use Rattle.words.specs.Slices.{halves_of}
use Rattle.words.proofs.WordLaws.{holds}
use Rattle.rules.specs.Replies.{Reply, Gives, ◌then◌, unless_refused}
use Rattle.rules.specs.declared.Refusal.{Refusal}
use Rattle.std.specs.Prelude.{Option, Result}
use Rattle.compare.specs.declared.Compared.{Compared}
use Rattle.compare.specs.Runs.{Run, portion, ending}
use Rattle.compare.specs.Calls.{PortionDone}
use Rattle.image_compare.specs.Comparing.{FirstOutcomesCompared, ListOutcomesCompared, first_outcomes_check, list_outcomes_check}
use Rattle.run_lines.specs.Shown.{room, numbers, Shown, FirstShown, ListsShown}

-- What the result slices hold before the comparison.
abbrev zeros : List ℕ
zeros = replicate room 0

places : length zeros ≡ room
places = length-replicate {A = ℕ} room 0

abbrev header-zeros : List ℕ
header-zeros = replicate numbers 0

header-places : length header-zeros ≡ numbers
header-places = length-replicate {A = ℕ} numbers 0

module _ (first' last' olds' news' : List ℕ) (r s : Result Compared Refusal) (e : s ≡ r) where
  shown : (check check' : Reply) (rs : List Run) → check ≡ check' → PortionDone check rs header-zeros header-zeros zeros zeros first' last' olds' news' r
      → Shown check' rs s
  shown check check' rs f p = rw e (record {
    reply = p.reply ∙ ap₂ (λ (c : Reply) (k : ℕ). c then Gives (halves_of (ending k rs))) f places;
    count = p.count ∙ ap₂ (λ (c : Reply) (k : ℕ). length (unless_refused c (portion k rs) [])) f places;
  })

  pub first-shown : (old : List ℕ) (old_default : Option ℕ) (new : List ℕ) (new_default : Option ℕ) (start : ℕ)
      → FirstOutcomesCompared old old_default new new_default start header-zeros header-zeros zeros zeros first' last' olds' news' r
      → FirstShown old old_default new new_default start s
  first-shown old old_default new new_default start p =
      shown _ _ _ (ap₂ (λ (m n : ℕ). first_outcomes_check old old_default new new_default start m m n n) header-places places) p

  pub lists-shown : (old : List ℕ) (i : ℕ) (old_default : Option ℕ) (new : List ℕ) (j : ℕ) (new_default : Option ℕ) (start : ℕ)
      → ListOutcomesCompared old i old_default new j new_default start header-zeros header-zeros zeros zeros first' last' olds' news' r
      → ListsShown old i old_default new j new_default start s
  lists-shown old i old_default new j new_default start p =
      shown _ _ _ (ap₂ (λ (m n : ℕ). list_outcomes_check old i old_default new j new_default start m m n n) header-places places) p

-- The comparison from the word that holds 0 is that from header 0.
pub from_zero : (old : List ℕ) (old_default : Option ℕ) (new : List ℕ) (new_default : Option ℕ) (z : Word) (r : Result Compared Refusal) → z ≡ halves 0
    → FirstShown old old_default new new_default (num z) r → FirstShown old old_default new new_default 0 r
from_zero old old_default new new_default z r e p = subst (λ (n : ℕ). FirstShown old old_default new new_default n r) (holds e) p
