-- The starred examples of document 01 ("Tried by hand"), lookups in lists of which several rules match, and comparisons with defaults: one
-- table, and one proof of all its rows by computing both sides.
use Prim.Native.Nat.{ℕ, ◌*◌}
use mathlib.Core.Path.{◌≡◌, refl, ◌∙◌}
use mathlib.Core.List.{List, [], ◌∷◌}
use lib.ListN.{length}
use Rattle.words.specs.Halves.{num, halves}
use Rattle.words.specs.Slices.{words_of, halves_of}
use Rattle.rules.specs.Rule.{Rule}
use Rattle.rules.specs.Rules.{rule, matches, answer, first, position, no_match, covers, crosses, stars, mergeable, merged}
use Rattle.rules.specs.Slices.{zipped, rules_of, cares_of, values_of, decisions_of}
use Rattle.rules.specs.Replies.{Reply, Gives, Refuses, passed}
use Rattle.rules.specs.Checks.{width_check, lengths_check, size_check, pattern_fits, rule_check, rules_check, list_check, header_check, room_check}
use Rattle.rules.specs.Calls.{check_list, looked_up, decided}
use Rattle.rules.proofs.ReplyLaws.{then_next}
use Rattle.prefixes.specs.Prefix.{check_prefix, cross_check, crosses_among, crosses_with}
use Rattle.weaving.specs.Runs.{cut, run_sizes}
use Rattle.weaving.specs.Weave.{weave, dropped, merges}
use Rattle.weaving.specs.Calls.{runs_reply, weave_reply}
use Rattle.compare.specs.Runs.{Run, run, runs_from as runs_of, runs_to, differences, portion, ending}
use Rattle.std.specs.Prelude.{Option, Some, None}
use Rattle.compare_check.specs.Outcomes.{outcome}
use Rattle.compare_check.specs.Checks.{compare_check, portion_check, results_check, default_check, outcomes_check}

-- ---- what a row says

-- Cutting these rules into runs: the call's reply is the number of runs, and these are their sizes.
pub record Cuts (w : ℕ) (rs : List Rule) (sizes : List ℕ) : Type 0 where
  pub reply : runs_reply w (cares_of rs) (values_of rs) (decisions_of rs) (decisions_of rs) ≡ Gives (length sizes ∷ [])
  pub list : run_sizes (rules_of (cares_of rs) (values_of rs) (decisions_of rs)) ≡ sizes

-- Weaving these rules, with result slices that are as long: the call's reply is the three counts, and this is the woven list.
pub record Weaves (w : ℕ) (rs ms : List Rule) (keeps drops joins : ℕ) : Type 0 where
  pub reply : weave_reply w (cares_of rs) (values_of rs) (decisions_of rs) (cares_of rs) (values_of rs) (decisions_of rs) ≡ Gives (keeps ∷ drops ∷ joins ∷ [])
  pub list : weave w (rules_of (cares_of rs) (values_of rs) (decisions_of rs)) ≡ ms

-- Looking a header up in these rules.
abbrev looks : (w : ℕ) → List Rule → (h : ℕ) → Reply
looks w rs h = looked_up w (cares_of rs) (values_of rs) (decisions_of rs) h

-- The checks of a comparison of these rules with result slices of so many places.
abbrev compare_checks : (w : ℕ) → (old new : List Rule) → (start room : ℕ) → Reply
compare_checks w old new start room =
    compare_check w (cares_of old) (values_of old) (decisions_of old) (cares_of new) (values_of new) (decisions_of new) start (room * 2) (room * 2) room room

-- All runs of differences of these rules.
abbrev all_runs : (w : ℕ) → (old new : List Rule) → (start : ℕ) → List Run
all_runs w old new start =
    differences w (answer (rules_of (cares_of old) (values_of old) (decisions_of old))) (answer (rules_of (cares_of new) (values_of new) (decisions_of new))) start

-- Comparing these rules: the call is not refused, it lists these runs, and it ends with this header, or with none where it finished.
pub record Compares (w : ℕ) (old new : List Rule) (start room : ℕ) (listed : List Run) (next : List ℕ) : Type 0 where
  pub fine : compare_checks w old new start room ≡ passed
  pub list : portion room (all_runs w old new start) ≡ listed
  pub last : ending room (all_runs w old new start) ≡ next

-- The checks of a comparison of these rules, each side with its default, and all runs of their outcomes.
abbrev outcome_checks : (w : ℕ) → (old : List Rule) → (old_default : Option ℕ) → (new : List Rule) → (new_default : Option ℕ) → (start room : ℕ) → Reply
outcome_checks w old old_default new new_default start room =
    outcomes_check w (cares_of old) (values_of old) (decisions_of old) old_default (cares_of new) (values_of new) (decisions_of new) new_default
    start (room * 2) (room * 2) room room

abbrev outcome_runs : (w : ℕ) → (old : List Rule) → (old_default : Option ℕ) → (new : List Rule) → (new_default : Option ℕ) → (start : ℕ) → List Run
outcome_runs w old old_default new new_default start =
    differences w (outcome old_default (rules_of (cares_of old) (values_of old) (decisions_of old)))
    (outcome new_default (rules_of (cares_of new) (values_of new) (decisions_of new))) start

-- Comparing the outcomes of these rules: likewise.
pub record ComparesOutcomes (w : ℕ) (old : List Rule) (old_default : Option ℕ) (new : List Rule) (new_default : Option ℕ) (start room : ℕ)
    (listed : List Run) (next : List ℕ) : Type 0 where
  pub fine : outcome_checks w old old_default new new_default start room ≡ passed
  pub list : portion room (outcome_runs w old old_default new new_default start) ≡ listed
  pub last : ending room (outcome_runs w old old_default new new_default start) ≡ next

-- ---- the table

-- The two lists of the comparison at width 3: `0**`→1, and `00*`→1, `1*1`→1.
abbrev older : List Rule
older = rule 4 0 1 ∷ []

abbrev newer : List Rule
newer = rule 6 0 1 ∷ rule 5 5 1 ∷ []

-- A list of which several rules match one header, two of them with one decision: `00*`→7, `0**`→7, `***`→8.
abbrev nested : List Rule
nested = rule 6 0 7 ∷ rule 4 0 7 ∷ rule 0 0 8 ∷ []

-- `1*`→1, `00`→2, and the same woven: `00`→2, `1*`→1.
abbrev unsorted : List Rule
unsorted = rule 2 2 1 ∷ rule 3 0 2 ∷ []

abbrev sorted : List Rule
sorted = rule 3 0 2 ∷ rule 2 2 1 ∷ []

pub record Table : Type 0 where
  -- `000*`→1, `001*`→1, `0000`→2, `0***`→2, `1***`→1 becomes `00**`→1, `0***`→2, `1***`→1: 3, 1 and 1
  pub five-rules : Weaves 4 (rule 14 0 1 ∷ rule 14 2 1 ∷ rule 15 0 2 ∷ rule 8 0 2 ∷ rule 8 8 1 ∷ []) (rule 12 0 1 ∷ rule 8 0 2 ∷ rule 8 8 1 ∷ []) 3 1 1
  -- `0*`→1, `*0`→2 stays as it is, in two runs, and has no prefix bit-swap: 8 with the pair (1, 2)
  pub crossing-runs : Cuts 2 (rule 2 0 1 ∷ rule 1 0 2 ∷ []) (1 ∷ 1 ∷ [])
  pub crossing-rules : Weaves 2 (rule 2 0 1 ∷ rule 1 0 2 ∷ []) (rule 2 0 1 ∷ rule 1 0 2 ∷ []) 2 0 0
  pub crossing-swap : check_prefix 2 (2 ∷ 0 ∷ 1 ∷ 0 ∷ []) (0 ∷ 0 ∷ 0 ∷ 0 ∷ []) (1 ∷ 2 ∷ []) ≡ Refuses 8 1 2
  -- with `00`→3 after them, the second run covers it
  pub covered-runs : Cuts 2 (rule 2 0 1 ∷ rule 1 0 2 ∷ rule 3 0 3 ∷ []) (1 ∷ 2 ∷ [])
  pub covered-rule : Weaves 2 (rule 2 0 1 ∷ rule 1 0 2 ∷ rule 3 0 3 ∷ []) (rule 2 0 1 ∷ rule 1 0 2 ∷ []) 2 1 0
  -- `00`, `01`, `11`, each →7, becomes `0*`, `11`
  pub first-pair : Weaves 2 (rule 3 0 7 ∷ rule 3 1 7 ∷ rule 3 3 7 ∷ []) (rule 2 0 7 ∷ rule 3 3 7 ∷ []) 2 0 1
  -- `00`, `01`, `10`, `11`, each →7, becomes `**` by three merges
  pub all-pairs : Weaves 2 (rule 3 0 7 ∷ rule 3 1 7 ∷ rule 3 2 7 ∷ rule 3 3 7 ∷ []) (rule 0 0 7 ∷ []) 1 0 3
  -- `1*`→1, `00`→2 becomes `00`→2, `1*`→1
  pub sorted-rules : Weaves 2 unsorted sorted 2 0 0
  -- header 0 hits rule 1 of three that match, header 2 rule 2 of two, with the same decision, and header 4 rule 3
  pub hit-first : looks 3 nested 0 ≡ Gives (1 ∷ 7 ∷ [])
  pub hit-second : looks 3 nested 2 ≡ Gives (2 ∷ 7 ∷ [])
  pub hit-third : looks 3 nested 4 ≡ Gives (3 ∷ 8 ∷ [])
  -- header 2 hits rule 1 of the list and rule 2 of the woven one, and both decide 1
  pub hit-unsorted : looks 2 unsorted 2 ≡ Gives (1 ∷ 1 ∷ [])
  pub hit-sorted : looks 2 sorted 2 ≡ Gives (2 ∷ 1 ∷ [])
  pub sorted-alike : decided (looks 2 sorted 2) ≡ decided (looks 2 unsorted 2)
  -- the empty list, at any width that passes: nothing is kept, and no header that passes has a match
  pub empty-list : (w : ℕ) → width_check w ≡ passed → Weaves w [] [] 0 0 0
  pub empty_runs : (w : ℕ) → width_check w ≡ passed → Cuts w [] []
  pub empty-lookup : (w h : ℕ) → width_check w ≡ passed → header_check w h ≡ passed → looked_up w [] [] [] h ≡ Gives []
  -- width 3 from header 0 with room for all three runs; with room for one; from header 3; from header 8, which is refused 6
  pub three-runs : Compares 3 older newer 0 3 (run 2 3 1 no_match ∷ run 5 5 no_match 1 ∷ run 7 7 no_match 1 ∷ []) []
  pub room-one : Compares 3 older newer 0 1 (run 2 3 1 no_match ∷ []) (5 ∷ [])
  pub start-three : Compares 3 older newer 3 3 (run 3 3 1 no_match ∷ run 5 5 no_match 1 ∷ run 7 7 no_match 1 ∷ []) []
  pub start-eight : compare_checks 3 older newer 8 1 ≡ Refuses 6 0 0
  -- width 2, `00`→1, `01`→1 against the empty list: one run, from 0 to 1
  pub one-run : Compares 2 (rule 3 0 1 ∷ rule 3 1 1 ∷ []) [] 0 1 (run 0 1 1 no_match ∷ []) []
  -- the width 3 pair again, with no default: the same three runs; with 1 on both sides: each side decides 1 everywhere, and no run is left;
  -- with 1 on the new side: one run, from 4 to 7; with 1 on the old side: the runs where the new list misses
  pub no-defaults : ComparesOutcomes 3 older None newer None 0 3 (run 2 3 1 no_match ∷ run 5 5 no_match 1 ∷ run 7 7 no_match 1 ∷ []) []
  pub both-default : ComparesOutcomes 3 older (Some 1) newer (Some 1) 0 3 [] []
  pub new-default : ComparesOutcomes 3 older None newer (Some 1) 0 3 (run 4 7 no_match 1 ∷ []) []
  pub old-default : ComparesOutcomes 3 older (Some 1) newer None 0 3 (run 2 4 1 no_match ∷ run 6 6 1 no_match ∷ []) []
  pub old-default-one : ComparesOutcomes 3 older (Some 1) newer None 0 1 (run 2 4 1 no_match ∷ []) (6 ∷ [])
  -- a default of 65,535 is refused 5 with its side, the old one first, and before the start's 6
  pub bad-defaults : outcome_checks 3 older (Some 65535) newer (Some 65535) 8 0 ≡ Refuses 5 1 0
  pub bad-new-default : outcome_checks 3 older None newer (Some 65535) 8 0 ≡ Refuses 5 2 0

-- Every row, by computing.
pub table : Table
unfolding runs_reply weave_reply weave dropped merges cut crosses covers stars mergeable merged check_prefix cross_check crosses_among crosses_with check_list looked_up width_check list_check lengths_check size_check rules_check rule_check pattern_fits header_check room_check zipped words_of halves_of num halves compare_check outcomes_check default_check portion_check results_check runs_to runs_of first position matches
table = record {
  five-rules = record { reply = refl; list = refl };
  crossing-runs = record { reply = refl; list = refl };
  crossing-rules = record { reply = refl; list = refl };
  crossing-swap = refl;
  covered-runs = record { reply = refl; list = refl };
  covered-rule = record { reply = refl; list = refl };
  first-pair = record { reply = refl; list = refl };
  all-pairs = record { reply = refl; list = refl };
  sorted-rules = record { reply = refl; list = refl };
  hit-first = refl;
  hit-second = refl;
  hit-third = refl;
  hit-unsorted = refl;
  hit-sorted = refl;
  sorted-alike = refl;
  empty-list = λ w e. record { reply = then_next _ _ (then_next _ _ e); list = refl };
  empty_runs = λ w e. record { reply = then_next _ _ (then_next _ _ e); list = refl };
  empty-lookup = λ w h e k. then_next _ _ (then_next _ _ e) ∙ then_next _ _ k;
  three-runs = record { fine = refl; list = refl; last = refl };
  room-one = record { fine = refl; list = refl; last = refl };
  start-three = record { fine = refl; list = refl; last = refl };
  start-eight = refl;
  one-run = record { fine = refl; list = refl; last = refl };
  no-defaults = record { fine = refl; list = refl; last = refl };
  both-default = record { fine = refl; list = refl; last = refl };
  new-default = record { fine = refl; list = refl; last = refl };
  old-default = record { fine = refl; list = refl; last = refl };
  old-default-one = record { fine = refl; list = refl; last = refl };
  bad-defaults = refl;
  bad-new-default = refl;
}
