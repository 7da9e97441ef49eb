-- The plain comparison's promise leaves no second answer, and no second contents of the result slices.
use Prim.Native.Nat.{ℕ}
use mathlib.Core.Path.{◌≡◌}
use mathlib.Core.List.{List}
use Rattle.std.specs.Prelude.{Result}
use Rattle.rules.specs.declared.Refusal.{Refusal}
use Rattle.compare.specs.declared.Compared.{Compared}
use Rattle.compare.proofs.Unique.{done-once}
use Rattle.plain_compare.specs.Calls.{PlainComparison}

-- `compare_plain`
pub compare-plain-once : (w : ℕ) (oc ov od nc nv nd : List ℕ) (start : ℕ) (first last old new : List ℕ)
    (first' last' old' new' : List ℕ) (r : Result Compared Refusal) (first'' last'' old'' new'' : List ℕ) (s : Result Compared Refusal)
    → PlainComparison w oc ov od nc nv nd start first last old new first' last' old' new' r
    → PlainComparison w oc ov od nc nv nd start first last old new first'' last'' old'' new'' s
    → (r ≡ s) × (first' ≡ first'') × (last' ≡ last'') × (old' ≡ old'') × (new' ≡ new'')
compare-plain-once w oc ov od nc nv nd start first last old new = done-once _ _ first last old new
