-- Small candidates by computation: what is replied, and what stands beside it. A list is written with the patterns of its rules; the numbers
-- after `rule` are care, value and decision.
use Prim.Native.Nat.{ℕ}
use mathlib.Core.Path.{◌≡◌, refl}
use mathlib.Core.List.{List, [], ◌∷◌}
use Rattle.words.specs.Halves.{num, halves}
use Rattle.words.specs.Slices.{words_of, halves_of}
use Rattle.rules.specs.Rule.{Rule}
use Rattle.rules.specs.Rules.{rule, matches, first, answer}
use Rattle.rules.specs.Slices.{zipped, cares_of, values_of, decisions_of}
use Rattle.rules.specs.Replies.{Reply, Refuses, passed}
use Rattle.rules.specs.Checks.{width_check, lengths_check, size_check, pattern_fits, rule_check, rules_check, list_check}
use Rattle.rules.specs.Calls.{check_list}
use Rattle.compare.specs.Needed.{lowest_from}
use Rattle.compare.specs.Differing.{differ_on, lowest_difference}
use Rattle.acceptance.specs.Accepting.{longer_check, candidate_check, lowest_unlike, accept_reply, beside}

-- the reply for two lists in slices of just their size
abbrev replied : (w : ℕ) → (source candidate : List Rule) → Reply
replied w s c = accept_reply w (cares_of s) (values_of s) (decisions_of s) (cares_of c) (values_of c) (decisions_of c)

-- a number of the lowest header beside it; none where there is no such header
abbrev shown : (number : ℕ → ℕ) → (w : ℕ) → (source candidate : List Rule) → List ℕ
shown number w s c = beside (λ (h : ℕ). number h ∷ []) w (cares_of s) (values_of s) (decisions_of s) (cares_of c) (values_of c) (decisions_of c)

-- ---- rules exchanged

-- 0**→1, *11→2
abbrev source : List Rule
source = rule 4 0 1 ∷ rule 3 3 2 ∷ []

-- *11→2, 0**→1
abbrev exchanged : List Rule
exchanged = rule 3 3 2 ∷ rule 4 0 1 ∷ []

-- Both match 011, so it gets another answer: 3 is the lowest such header.
pub exchanged-unlike : replied 3 source exchanged ≡ Refuses 28 0 0
unfolding accept_reply candidate_check longer_check lowest_unlike lowest_difference lowest_from differ_on check_list width_check list_check lengths_check size_check rules_check rule_check pattern_fits zipped words_of halves_of num halves first matches
exchanged-unlike = refl

pub exchanged-header : shown (λ (h : ℕ). h) 3 source exchanged ≡ 3 ∷ []
unfolding beside candidate_check longer_check lowest_unlike lowest_difference lowest_from differ_on check_list width_check list_check lengths_check size_check rules_check rule_check pattern_fits zipped words_of halves_of num halves first matches
exchanged-header = refl

pub exchanged-answers : (shown (answer source) 3 source exchanged ≡ 1 ∷ []) × (shown (answer exchanged) 3 source exchanged ≡ 2 ∷ [])
unfolding beside candidate_check longer_check lowest_unlike lowest_difference lowest_from differ_on check_list width_check list_check lengths_check size_check rules_check rule_check pattern_fits zipped words_of halves_of num halves first matches
exchanged-answers = (refl, refl)

-- 0**→1, 1*1→2 and the other way round: no header matches both, and as many rules are not more.
pub apart-accepted : replied 3 (rule 4 0 1 ∷ rule 5 5 2 ∷ []) (rule 5 5 2 ∷ rule 4 0 1 ∷ []) ≡ passed
unfolding accept_reply candidate_check longer_check lowest_unlike lowest_difference lowest_from differ_on check_list width_check list_check lengths_check size_check rules_check rule_check pattern_fits zipped words_of halves_of num halves first matches
apart-accepted = refl

-- ---- lengths

-- 0**→1 for 00*→1, 01*→1: shorter.
pub shorter-accepted : replied 3 (rule 6 0 1 ∷ rule 6 2 1 ∷ []) (rule 4 0 1 ∷ []) ≡ passed
unfolding accept_reply candidate_check longer_check lowest_unlike lowest_difference lowest_from differ_on check_list width_check list_check lengths_check size_check rules_check rule_check pattern_fits zipped words_of halves_of num halves first matches
shorter-accepted = refl

-- The other way round it is longer, although it answers alike; and longer is said before unlike.
pub longer-refused : (replied 3 (rule 4 0 1 ∷ []) (rule 6 0 1 ∷ rule 6 2 1 ∷ []) ≡ Refuses 27 0 0) × (replied 3 (rule 4 0 1 ∷ []) (rule 6 0 1 ∷ rule 6 2 2 ∷ []) ≡ Refuses 27 0 0)
unfolding accept_reply candidate_check longer_check lowest_unlike lowest_difference lowest_from differ_on check_list width_check list_check lengths_check size_check rules_check rule_check pattern_fits zipped words_of halves_of num halves first matches
longer-refused = (refl, refl)

-- The empty list for a list that decides something: no match stands against its answer.
pub empty-unlike : (replied 3 (rule 4 4 1 ∷ []) [] ≡ Refuses 28 0 0) × (shown (λ (h : ℕ). h) 3 (rule 4 4 1 ∷ []) [] ≡ 4 ∷ []) × (shown (answer []) 3 (rule 4 4 1 ∷ []) [] ≡ 65535 ∷ [])
unfolding accept_reply beside candidate_check longer_check lowest_unlike lowest_difference lowest_from differ_on check_list width_check list_check lengths_check size_check rules_check rule_check pattern_fits zipped words_of halves_of num halves first matches
empty-unlike = (refl, refl, refl)
