-- Where a list needs a rule: the lowest header whose answer changes when the rule is taken away (request 12).
use Rattle.std.specs.Prelude.{ℕ, zero, suc, ◌^◌, ◌<◌, ◌≡◌, ◌≢◌, List, [], ◌∷◌, Bool, not, cond, eqb, Option, Result}
use Rattle.words.specs.Slices.{halves_of}
use Rattle.rules.specs.Rule.{Rule}
use Rattle.rules.specs.Rules.{answer}
use Rattle.rules.specs.Lists.{except}
use Rattle.rules.specs.Slices.{rules_of}
use Rattle.rules.specs.declared.Refusal.{Refusal}
use Rattle.rules.specs.declared.RuleList.{RuleList}
use Rattle.rules.specs.declared.Wire.{Wire}
use Rattle.rules.specs.Replies.{Reply, Gives, ◌then◌, reply}
use Rattle.rules.specs.Calls.{check_list}
use Rattle.compare.specs.Calls.{header_values}

-- Whether a header gets another answer when the rule at position k, counted from 0, is taken from the list.
unfoldable pub changes : List Rule → (k h : ℕ) → Bool
changes rs k h = not (eqb (answer rs h) (answer (except k rs) h))

-- The first of n numbers from h on for which the test holds; none where it holds for none of them.
unfoldable pub lowest_from : (ℕ → Bool) → (n h : ℕ) → List ℕ
lowest_from f zero h = []
lowest_from f (suc n) h = cond (f h) (h ∷ []) (lowest_from f n (suc h))

-- The lowest header of the width that gets another answer without the rule at position k; none where no header does.
unfoldable pub lowest_change : (w : ℕ) → List Rule → (k : ℕ) → List ℕ
lowest_change w rs k = lowest_from (changes rs k) (2 ^ w) 0

-- The rule at position k does nothing: every header of the width gets the same answer without it. That there is no lowest header just then
-- is the law `nothing-exactly`.
abbrev pub DoesNothing : (w : ℕ) → List Rule → (k : ℕ) → Type 0
DoesNothing w rs k = (h : ℕ) → h < 2 ^ w → answer (except k rs) h ≡ answer rs h

-- The header h gets another answer without the rule at position k, and no lower one does. That the lowest header is just this one is the
-- law `lowest-exactly`.
pub record LowestChange (w : ℕ) (rs : List Rule) (k h : ℕ) : Type 0 where
  pub below : h < 2 ^ w
  pub differ : answer (except k rs) h ≢ answer rs h
  pub lowest : (x : ℕ) → x < h → answer (except k rs) x ≡ answer rs x

-- ---- the call

-- A header is two values; where the rule does nothing there is none.
abbrev pub needed_reply : Result (Option Wire) Refusal → Reply
needed_reply r = reply header_values r

-- What the call replies: the list's checks, then the lowest header.
unfoldable pub needed_at : ℕ → (cares values decisions : List ℕ) → (k : ℕ) → Reply
needed_at w cs vs ds k = check_list w 1 cs vs ds then Gives (halves_of (lowest_change w (rules_of cs vs ds) k))

-- The same of a list as it is lent.
abbrev pub needed_in : ℕ → RuleList → (k : ℕ) → Reply
needed_in w x k = needed_at w x.care.now x.value.now x.decision.now k
