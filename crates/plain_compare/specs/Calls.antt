-- What the plain comparison replies and leaves in the result slices (request 13): what the comparison does, for widths up to 12.
use Rattle.std.specs.Prelude.{ℕ, List, length, leb, Result}
use Rattle.rules.specs.Rules.{answer}
use Rattle.rules.specs.Slices.{rules_of}
use Rattle.rules.specs.declared.Refusal.{Refusal}
use Rattle.rules.specs.declared.RuleList.{RuleList}
use Rattle.rules.specs.Replies.{Reply, need, ◌then◌}
use Rattle.compare_check.specs.Checks.{compare_check}
use Rattle.compare.specs.declared.Compared.{Compared}
use Rattle.compare.specs.Runs.{differences}
use Rattle.compare.specs.Calls.{PortionDone}

-- The greatest width that it takes (request 13).
abbrev pub widest_plain : ℕ
widest_plain = 12

-- Refusal 1 of a wider width, at no place; then the checks of a comparison of two lists, refusal 1 of width 0 among them.
unfoldable pub plain_check : (w : ℕ) → (oc ov od nc nv nd : List ℕ) → (start : ℕ) → (firsts lasts olds news : ℕ) → Reply
plain_check w oc ov od nc nv nd start a b c d = need (leb w widest_plain) 1 0 0 then compare_check w oc ov od nc nv nd start a b c d

-- The same of two lists as they are lent.
abbrev pub plain_check_in : (w : ℕ) → (old new : RuleList) → (start : ℕ) → (firsts lasts olds news : ℕ) → Reply
plain_check_in w old new start a b c d = plain_check w old.care.now old.value.now old.decision.now new.care.now new.value.now new.decision.now start a b c d

-- The promise of the plain comparison of two lists. That up to width 12 it is that of the comparison is the theorem `same-comparison`.
abbrev pub PlainComparison : (w : ℕ) → (oc ov od nc nv nd : List ℕ) → (start : ℕ) → (first last old new first' last' old' new' : List ℕ) → Result Compared Refusal → Type 0
PlainComparison w oc ov od nc nv nd start first last old new first' last' old' new' r =
    PortionDone (plain_check w oc ov od nc nv nd start (length first) (length last) (length old) (length new))
    (differences w (answer (rules_of oc ov od)) (answer (rules_of nc nv nd)) start) first last old new first' last' old' new' r

-- The same of two lists as they are lent.
abbrev pub PlainComparisonIn : (w : ℕ) → (old new : RuleList) → (start : ℕ) → (first last olds news first' last' olds' news' : List ℕ) → Result Compared Refusal → Type 0
PlainComparisonIn w old new start first last olds news first' last' olds' news' r =
    PlainComparison w old.care.now old.value.now old.decision.now new.care.now new.value.now new.decision.now start
    first last olds news first' last' olds' news' r
