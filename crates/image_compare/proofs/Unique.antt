-- Comparing lists of two images leaves no second answer, and no second contents of the result slices.
use mathlib.Core.Path.{◌≡◌}
use mathlib.Core.List.{List}
use Prim.Native.Nat.{ℕ}
use Rattle.std.specs.Prelude.{Option, None, Result}
use Rattle.rules.specs.declared.Refusal.{Refusal}
use Rattle.compare.specs.declared.Compared.{Compared}
use Rattle.compare.proofs.Unique.{done-once}
use Rattle.image_compare.specs.Comparing.{ListsCompared, FirstCompared, ListOutcomesCompared, FirstOutcomesCompared}
use Rattle.image_compare.proofs.CompareLaws.{lists-without, first-without}

-- `compare_lists`
pub compare-lists-once : (old : List ℕ) (i : ℕ) (new : List ℕ) (j : ℕ) (start : ℕ) (first last olds news : List ℕ)
    (first' last' olds' news' : List ℕ) (r : Result Compared Refusal) (first'' last'' olds'' news'' : List ℕ) (s : Result Compared Refusal)
    → ListsCompared old i new j start first last olds news first' last' olds' news' r
    → ListsCompared old i new j start first last olds news first'' last'' olds'' news'' s
    → (r ≡ s) × (first' ≡ first'') × (last' ≡ last'') × (olds' ≡ olds'') × (news' ≡ news'')
compare-lists-once old i new j start first last olds news = done-once _ _ first last olds news

-- `compare_first`
pub compare-first-once : (old new : List ℕ) (start : ℕ) (first last olds news : List ℕ)
    (first' last' olds' news' : List ℕ) (r : Result Compared Refusal) (first'' last'' olds'' news'' : List ℕ) (s : Result Compared Refusal)
    → FirstCompared old new start first last olds news first' last' olds' news' r
    → FirstCompared old new start first last olds news first'' last'' olds'' news'' s
    → (r ≡ s) × (first' ≡ first'') × (last' ≡ last'') × (olds' ≡ olds'') × (news' ≡ news'')
compare-first-once old new start first last olds news = done-once _ _ first last olds news

-- `compare_list_outcomes`
pub compare-list-outcomes-once : (old : List ℕ) (i : ℕ) (old_default : Option ℕ) (new : List ℕ) (j : ℕ) (new_default : Option ℕ) (start : ℕ) (first last olds news : List ℕ)
    (first' last' olds' news' : List ℕ) (r : Result Compared Refusal) (first'' last'' olds'' news'' : List ℕ) (s : Result Compared Refusal)
    → ListOutcomesCompared old i old_default new j new_default start first last olds news first' last' olds' news' r
    → ListOutcomesCompared old i old_default new j new_default start first last olds news first'' last'' olds'' news'' s
    → (r ≡ s) × (first' ≡ first'') × (last' ≡ last'') × (olds' ≡ olds'') × (news' ≡ news'')
compare-list-outcomes-once old i old_default new j new_default start first last olds news = done-once _ _ first last olds news

-- `compare_first_outcomes`
pub compare-first-outcomes-once : (old : List ℕ) (old_default : Option ℕ) (new : List ℕ) (new_default : Option ℕ) (start : ℕ) (first last olds news : List ℕ)
    (first' last' olds' news' : List ℕ) (r : Result Compared Refusal) (first'' last'' olds'' news'' : List ℕ) (s : Result Compared Refusal)
    → FirstOutcomesCompared old old_default new new_default start first last olds news first' last' olds' news' r
    → FirstOutcomesCompared old old_default new new_default start first last olds news first'' last'' olds'' news'' s
    → (r ≡ s) × (first' ≡ first'') × (last' ≡ last'') × (olds' ≡ olds'') × (news' ≡ news'')
compare-first-outcomes-once old old_default new new_default start first last olds news = done-once _ _ first last olds news

-- `compare_lists` and `compare_list_outcomes` with no default on both sides have the same answer and leave the same in the slices, for
-- every input.
pub compare-lists-as-without : (old : List ℕ) (i : ℕ) (new : List ℕ) (j : ℕ) (start : ℕ) (first last olds news : List ℕ)
    (first' last' olds' news' : List ℕ) (r : Result Compared Refusal) (first'' last'' olds'' news'' : List ℕ) (s : Result Compared Refusal)
    → ListsCompared old i new j start first last olds news first' last' olds' news' r
    → ListOutcomesCompared old i None new j None start first last olds news first'' last'' olds'' news'' s
    → (r ≡ s) × (first' ≡ first'') × (last' ≡ last'') × (olds' ≡ olds'') × (news' ≡ news'')
compare-lists-as-without old i new j start first last olds news first' last' olds' news' r first'' last'' olds'' news'' s p q =
    done-once _ _ first last olds news first' last' olds' news' r first'' last'' olds'' news'' s
    ((lists-without old i new j start first last olds news first' last' olds' news' r).0 p) q

-- `compare_first` and `compare_first_outcomes`, likewise.
pub compare-first-as-without : (old new : List ℕ) (start : ℕ) (first last olds news : List ℕ)
    (first' last' olds' news' : List ℕ) (r : Result Compared Refusal) (first'' last'' olds'' news'' : List ℕ) (s : Result Compared Refusal)
    → FirstCompared old new start first last olds news first' last' olds' news' r
    → FirstOutcomesCompared old None new None start first last olds news first'' last'' olds'' news'' s
    → (r ≡ s) × (first' ≡ first'') × (last' ≡ last'') × (olds' ≡ olds'') × (news' ≡ news'')
compare-first-as-without old new start first last olds news first' last' olds' news' r first'' last'' olds'' news'' s p q =
    done-once _ _ first last olds news first' last' olds' news' r first'' last'' olds'' news'' s
    ((first-without old new start first last olds news first' last' olds' news' r).0 p) q
