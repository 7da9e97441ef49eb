-- The promise of each public call leaves no second result: not in the answer, and not in a slice lent for results.
use mathlib.Core.Path.{◌≡◌, sym, ◌∙◌}
use mathlib.Core.List.{List}
use Prim.Native.Nat.{ℕ}
use Rattle.std.specs.Prelude.{Result}
use Rattle.rules.specs.declared.Refusal.{Refusal}
use Rattle.rules.specs.Replies.{number_reply}
use Rattle.rules.proofs.ReplyLaws.{one-number}
use Rattle.five_fields.specs.Slices.{Slices}
use Rattle.five_fields.specs.Calls.{count_reply, ExpandDone}

-- `expansion_count`: two answers that meet the promise are equal
pub expansion-count-once : (s : Slices) (x y : Result ℕ Refusal) → number_reply x ≡ count_reply s → number_reply y ≡ count_reply s → x ≡ y
expansion-count-once s x y p q = one-number x y (p ∙ sym q)

-- `expand`: two results that meet the promise are equal, all three result slices too
pub expand-once : (s : Slices) (cs vs ds a₁ b₁ c₁ a₂ b₂ c₂ : List ℕ) (x y : Result ℕ Refusal)
    → ExpandDone s cs vs ds a₁ b₁ c₁ x → ExpandDone s cs vs ds a₂ b₂ c₂ y → (x ≡ y) × ((a₁ ≡ a₂) × ((b₁ ≡ b₂) × (c₁ ≡ c₂)))
expand-once s cs vs ds a₁ b₁ c₁ a₂ b₂ c₂ x y p q =
    (one-number x y (p.reply ∙ sym q.reply), (p.cares ∙ sym q.cares, (p.values ∙ sym q.values, p.decisions ∙ sym q.decisions)))
