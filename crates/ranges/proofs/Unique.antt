-- The promise of each public call leaves no second result: not in the answer, and not in a slice lent for results.
use mathlib.Core.Path.{◌≡◌, sym, ◌∙◌}
use mathlib.Core.List.{List}
use Prim.Native.Nat.{ℕ}
use Rattle.std.specs.Prelude.{Result}
use Rattle.rules.specs.declared.Refusal.{Refusal}
use Rattle.rules.specs.Replies.{number_reply}
use Rattle.rules.proofs.ReplyLaws.{one-number}
use Rattle.ranges.specs.Calls.{prefix_count_reply, PrefixesDone}

-- `range_prefix_count`: two answers that meet the promise are equal
pub range-prefix-count-once : (b low high : ℕ) (x y : Result ℕ Refusal) → number_reply x ≡ prefix_count_reply b low high → number_reply y ≡ prefix_count_reply b low high → x ≡ y
range-prefix-count-once b low high x y p q = one-number x y (p ∙ sym q)

-- `range_prefixes`: two results that meet the promise are equal, both result slices too
pub range-prefixes-once : (b low high : ℕ) (cs vs a₁ b₁ a₂ b₂ : List ℕ) (x y : Result ℕ Refusal)
    → PrefixesDone b low high cs vs a₁ b₁ x → PrefixesDone b low high cs vs a₂ b₂ y → (x ≡ y) × ((a₁ ≡ a₂) × (b₁ ≡ b₂))
range-prefixes-once b low high cs vs a₁ b₁ a₂ b₂ x y p q =
    (one-number x y (p.reply ∙ sym q.reply), (p.cares ∙ sym q.cares, p.values ∙ sym q.values))
