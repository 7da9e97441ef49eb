-- The promise of taking a rule out leaves no second result.
use mathlib.Core.Path.{◌≡◌, sym, ◌∙◌}
use mathlib.Core.List.{List}
use Prim.Native.Nat.{ℕ}
use Rattle.removal.specs.Removal.{Removed}

-- `remove_rule`: what the three slices hold afterwards
pub remove-rule-once : (cs vs ds : List ℕ) (i count : ℕ) (c v d c' v' d' : List ℕ) → Removed cs vs ds i count c v d → Removed cs vs ds i count c' v' d'
    → (c ≡ c') × (v ≡ v') × (d ≡ d')
remove-rule-once cs vs ds i count c v d c' v' d' p q =
    (p.cares ∙ sym q.cares, p.values ∙ sym q.values, p.decisions ∙ sym q.decisions)
