-- Dropping every rule of a list that does nothing, from the last rule to the first (request 12).
use Rattle.std.specs.Prelude.{ℕ, zero, suc, ◌-◌, Bool, true, false, eqb, length, get_or}
use mathlib.Core.List.{List, [], ◌∷◌, Sublistᴰ}
use Rattle.rules.specs.Rule.{Rule}
use Rattle.rules.specs.Lists.{except}
use Rattle.compare.specs.Needed.{lowest_change}

-- ---- the pass

-- Whether the rule at position k does nothing: the answer to no header of the width changes without it. That this test holds exactly where
-- every header keeps its answer is the theorem `removed-exactly`.
unfoldable pub needless : (w : ℕ) → List Rule → (k : ℕ) → Bool
needless w rs k = eqb (length (lowest_change w rs k)) 0

-- The list without its rule at position k, where the test holds.
abbrev pub drop_if : Bool → ℕ → List Rule → List Rule
drop_if true k rs = except k rs
drop_if false k rs = rs

-- The first n rules of the list gone through from the last of them to the first: each is dropped where it does nothing in the list as it
-- then stands, without the rules that were dropped before (request 12). A rule that is needed stays needed when one before it goes (the law
-- `change-kept`), and may not when one after it goes: so one pass is enough in this direction, and would not be in the other.
unfoldable pub pass_down : (w n : ℕ) → List Rule → List Rule
pass_down w zero rs = rs
pass_down w (suc k) rs = pass_down w k (drop_if (needless w rs k) k rs)

-- The list with every rule gone through, once. That no rule of it does nothing is the theorem `every-rule-needed`, and that one pass more
-- changes nothing is `prune-again`.
unfoldable pub prune : (w : ℕ) → List Rule → List Rule
prune w rs = pass_down w (length rs) rs

-- ---- what is told of it

-- The two counts of the answer (request 12): rules kept and rules dropped.
abbrev pub kept : (w : ℕ) → List Rule → ℕ
kept w rs = length (prune w rs)

abbrev pub dropped : (w : ℕ) → List Rule → ℕ
dropped w rs = length rs - length (prune w rs)

-- The header shown beside the rule at position k: the lowest at which it is needed (request 12); 0 where there is none, which is nowhere in
-- a pruned list (the theorem `header-shown`).
abbrev pub needed_header : (w : ℕ) → List Rule → (k : ℕ) → ℕ
needed_header w rs k = get_or (lowest_change w rs k) 0 0

-- The headers of n rules from position k on.
unfoldable pub headers_from : (w : ℕ) → List Rule → (n k : ℕ) → List ℕ
headers_from w rs zero k = []
headers_from w rs (suc n) k = needed_header w rs k ∷ headers_from w rs n (suc k)

-- A header for each rule of a list, in order.
abbrev pub needed_headers : (w : ℕ) → List Rule → List ℕ
needed_headers w rs = headers_from w rs (length rs) 0

-- ---- order

-- The rules xs are the rules ys with some of them left out, none or all perhaps, and the others in their order (request 12: the rules that
-- stay are the old ones, in the old order).
abbrev pub InOrder : (xs ys : List Rule) → Type 0
InOrder xs ys = Sublistᴰ xs ys
