-- What the public calls reply, and what stands in the lent slices afterwards (request 06).
use Rattle.std.specs.Prelude.{◌≡◌, Result, List, [], ◌∷◌, ℕ, ◌+◌, ltb, length}
use Rattle.rules.specs.Rules.{no_match}
use Rattle.rules.specs.Slices.{cares_of, values_of, decisions_of, filled}
use Rattle.rules.specs.declared.Refusal.{Refusal}
use Rattle.rules.specs.Replies.{Reply, Gives, passed, need, ◌then◌, number_reply, unless_refused}
use Rattle.rules.specs.Checks.{size_check, lengths_check, room_check}
use Rattle.five_fields.specs.FiveFieldRule.{FiveFieldRule}
use Rattle.five_fields.specs.FiveFieldRules.{fields_fit, ports_fit}
use Rattle.five_fields.specs.Slices.{Slices, rows, alike, rules_in}
use Rattle.five_fields.specs.Expansion.{expanded}

-- ---- a list of five-field rules

-- Rule number i: 23 for its addresses and its protocol, then 20 for its ports, then 5 for its decision.
unfoldable pub five_field_check : (i : ℕ) → FiveFieldRule → Reply
five_field_check i r =
    need (fields_fit r) 23 1 i
    then need (ports_fit r) 20 1 i
    then need (ltb r.decision no_match) 5 1 i

-- The rules from number i on: the lower rule first.
unfoldable pub five_fields_check : (i : ℕ) → List FiveFieldRule → Reply
five_fields_check i [] = passed
five_fields_check i (r ∷ rs) = five_field_check i r then five_fields_check (i + 1) rs

-- What can be wrong with ten slices: 2 where they are not equally long, 3 for more than 1,024 rules, then the rules one by one.
unfoldable pub rules_check : Slices → Reply
rules_check s = need (alike s) 2 0 0 then size_check 1 (rows s) then five_fields_check 1 (rules_in s)

-- And in the end, once all rules are good, 3 for more than 1,024 entries.
unfoldable pub source_check : Slices → Reply
source_check s = rules_check s then size_check 1 (length (expanded (rules_in s)))

-- ---- the calls

-- The number alone.
unfoldable pub count_reply : Slices → Reply
count_reply s = source_check s then Gives (length (expanded (rules_in s)) ∷ [])

-- The checks of the rules, then 2 of the result slices, then 7: a place for each entry.
unfoldable pub expand_check : Slices → (cares values decisions : List ℕ) → Reply
expand_check s cs vs ds =
    source_check s
    then lengths_check cs vs ds
    then room_check (length (expanded (rules_in s))) (length ds)

-- These checks; else the number of entries.
unfoldable pub expand_reply : Slices → (cares values decisions : List ℕ) → Reply
expand_reply s cs vs ds = expand_check s cs vs ds then Gives (length (expanded (rules_in s)) ∷ [])

-- What `expand` promises: its reply, and what stands in each result slice afterwards. Places past the last entry keep their contents.
pub record ExpandDone (s : Slices) (cs vs ds cs' vs' ds' : List ℕ) (answer : Result ℕ Refusal) : Type 0 where
  pub reply : number_reply answer ≡ expand_reply s cs vs ds
  pub cares : cs' ≡ unless_refused (expand_reply s cs vs ds) (filled (cares_of (expanded (rules_in s))) cs) cs
  pub values : vs' ≡ unless_refused (expand_reply s cs vs ds) (filled (values_of (expanded (rules_in s))) vs) vs
  pub decisions : ds' ≡ unless_refused (expand_reply s cs vs ds) (filled (decisions_of (expanded (rules_in s))) ds) ds
