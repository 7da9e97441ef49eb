-- What three slices hold after a rule was taken out of them.
use Rattle.std.specs.Prelude.{ℕ, ◌*◌, ◌≡◌, List, ◌∷◌, ◌++◌, Bool, ◌&&◌, leb, ltb, eqb, length, take, drop}
use Rattle.rules.specs.Rule.{Rule}
use Rattle.rules.specs.Lists.{except}
use Rattle.rules.specs.Slices.{rules_of, cares_of, values_of, decisions_of, blank, choosing}

-- The rules after rule i have moved down by one, up to position k: before it stand those of the list without rule i, and from it on nothing has
-- changed.
pub record Shifted (old l : List Rule) (i k : ℕ) : Type 0 where
  pub done : take k l ≡ take k (except i old)
  pub rest : drop k l ≡ drop k old

-- A list of which rule i was taken out of the first `count`: the later ones of these have moved down by one, and the place that became free is
-- cleared.
unfoldable pub taken_out : (i count : ℕ) → List Rule → List Rule
taken_out i count rs = except i (take count rs) ++ (blank ∷ drop count rs)

-- Whether rule i can be taken out of the first `count`: the slices belong together and have so many rules, and i is below `count`.
unfoldable pub removable : (cares values decisions : List ℕ) → (i count : ℕ) → Bool
removable cs vs ds i count =
    eqb (length cs) (length vs) && (eqb (length cs) (length ds * 2) && (ltb i count && leb count (length ds)))

-- What three slices hold after rule i was taken out of the first `count`: nothing changes where that cannot be done.
pub record Removed (cs vs ds : List ℕ) (i count : ℕ) (cs' vs' ds' : List ℕ) : Type 0 where
  pub cares : cs' ≡ choosing (removable cs vs ds i count) (cares_of (taken_out i count (rules_of cs vs ds))) cs
  pub values : vs' ≡ choosing (removable cs vs ds i count) (values_of (taken_out i count (rules_of cs vs ds))) vs
  pub decisions : ds' ≡ choosing (removable cs vs ds i count) (decisions_of (taken_out i count (rules_of cs vs ds))) ds
