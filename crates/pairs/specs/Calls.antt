-- What each public call on two rules replies: the checks of the two rules in document 01's order, then its answer.
use Rattle.std.specs.Prelude.{ℕ, List, [], ◌∷◌, Bool, Result}
use Rattle.rules.specs.Rule.{Rule}
use Rattle.rules.specs.declared.Refusal.{Refusal}
use Rattle.rules.specs.Rules.{choose, covers, crosses, distance}
use Rattle.rules.specs.Replies.{Reply, Gives, ◌then◌, reply}
use Rattle.rules.specs.Checks.{rule_check}
use Rattle.rules.specs.Calls.{check_rule}

-- ---- whether something holds of two rules, in numbers

-- Yes is 1, no is 0.
abbrev pub yes_or_no_values : Bool → List ℕ
yes_or_no_values t = choose t 1 0 ∷ []

abbrev pub holds_reply : Result Bool Refusal → Reply
holds_reply r = reply yes_or_no_values r

-- ---- the calls

-- Two rules at a width: 1, then the first rule's 4 and 5 at (1, 1), then the second's at (2, 1).
unfoldable pub pair_check : ℕ → Rule → Rule → Reply
pair_check w a b = check_rule w 1 1 a then rule_check w 2 1 b

-- A test as an answer, in the same numbers.
abbrev pub yes_or_no : Bool → Reply
yes_or_no t = Gives (yes_or_no_values t)

unfoldable pub covers_reply : ℕ → Rule → Rule → Reply
covers_reply w a b = pair_check w a b then yes_or_no (covers a b)

unfoldable pub crosses_reply : ℕ → Rule → Rule → Reply
crosses_reply w a b = pair_check w a b then yes_or_no (crosses a b)

unfoldable pub distance_reply : ℕ → Rule → Rule → Reply
distance_reply w a b = pair_check w a b then Gives (distance a b ∷ [])
