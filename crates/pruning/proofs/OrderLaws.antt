-- Laws of a list without one of its rules, and of rules left out: their positions, their order and their number.
use mathlib.Core.Path.{refl}
use mathlib.Core.List.Sublistᴰ
use mathlib.Core.List.{List, [], ◌∷◌, Sublistᴰ}
use Prim.Native.Nat.{ℕ, zero, suc, ◌≤◌, ◌<◌}
use native.Mathlib.Omega.{arith}
use lib.ListN.{length}
use Rattle.rules.specs.Rule.{Rule}
use Rattle.rules.specs.Lists.{except}

-- a rule at the position of the one that was taken out, or after it, stood one position later
pub except-after : (rs : List Rule) (k i : ℕ) → k ≤ i → i < length (except k rs) → suc i < length rs
except-after [] k i l m = absurd (omega arith)
except-after (r ∷ rs) zero i l m = omega arith
except-after (r ∷ rs) (suc k) zero l m = absurd (omega arith)
except-after (r ∷ rs) (suc k) (suc i) l m = omega (arith, except-after rs k i (omega arith) (omega arith))

-- the rules that are left are in their order
pub except-in-order : (rs : List Rule) (k : ℕ) → Sublistᴰ (except k rs) rs
except-in-order [] k = Sublistᴰ.slnil
except-in-order (r ∷ rs) zero = Sublistᴰ.cons (Sublistᴰ.refl rs)
except-in-order (r ∷ rs) (suc k) = Sublistᴰ.cons-cons refl (except-in-order rs k)

-- a list with some entries left out is no longer (the kit's law counts in other numbers)
pub in-order-length : {A : Type 0} {xs ys : List A} → Sublistᴰ xs ys → length xs ≤ length ys
in-order-length Sublistᴰ.slnil = omega arith
in-order-length (Sublistᴰ.cons s) = omega (arith, in-order-length s)
in-order-length (Sublistᴰ.cons-cons e s) = omega (arith, in-order-length s)
