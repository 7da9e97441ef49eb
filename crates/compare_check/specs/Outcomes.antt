-- What a header gets from one side of a comparison: a list of rules, and a default or none (request 04).
use Rattle.std.specs.Prelude.{ℕ, List, [], ◌∷◌, Option, Some, None}
use Rattle.rules.specs.Rule.{Rule}
use Rattle.rules.specs.Rules.{no_match, first}
use Rattle.rules.specs.Replies.{Reply, Gives, Refuses}

-- The number that a miss counts as: the default, else no match.
abbrev pub miss_number : Option ℕ → ℕ
miss_number None = no_match
miss_number (Some d) = d

-- The outcome of a list at a header: the decision of the first rule that matches, else the default, else no match. That a default counts
-- nowhere but where no rule matches are the laws `outcome-hit` and `outcome-miss`. Without a default it is the list's answer.
abbrev pub outcome : Option ℕ → List Rule → ℕ → ℕ
outcome default rs h = first rs h (miss_number default)

-- ---- the same of a lookup

-- What a lookup decides, with the default in the place of no match. Without a default it is what the lookup decides.
abbrev pub or_default : Option ℕ → Reply → Reply
or_default None x = x
or_default (Some d) (Gives []) = Gives (d ∷ [])
or_default (Some d) (Gives (n ∷ ns)) = Gives (n ∷ ns)
or_default (Some d) (Refuses n l r) = Refuses n l r
