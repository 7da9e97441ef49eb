-- The promise of `prune` leaves no second result: not in the answer, and not in any slice lent for results.
use mathlib.Core.Path.{◌≡◌, sym, ap₂, ◌∙◌}
use mathlib.Core.List.{List}
use Prim.Native.Nat.{ℕ}
use Rattle.std.specs.Prelude.{Result}
use Rattle.rules.specs.declared.Refusal.{Refusal}
use Rattle.rules.specs.Replies.{Gives}
use Rattle.rules.proofs.ReplyLaws.{one-reply, two-values}
use Rattle.pruning.specs.declared.Tally.{Tally}
use Rattle.pruning.specs.Calls.{tally_values, pruned_reply, PruneDone}

abbrev tally : (kept dropped : ℕ) → Tally
tally k d = record { kept = k; dropped = d }

one-tally : (s t : Tally) → Gives (tally_values s) ≡ Gives (tally_values t) → s ≡ t
one-tally s t e = let v = two-values e in ap₂ tally v.0 v.1

-- two answers with the same counts, or the same refusal, are one
pub one-pruned : (a b : Result Tally Refusal) → pruned_reply a ≡ pruned_reply b → a ≡ b
one-pruned a b e = one-reply tally_values one-tally a b e

-- `prune`: two results that meet the promise are equal, the four result slices too
pub prune-once : (w : ℕ) (cs vs ds ocs ovs ods hs a₁ b₁ c₁ d₁ a₂ b₂ c₂ d₂ : List ℕ) (x y : Result Tally Refusal)
    → PruneDone w cs vs ds ocs ovs ods hs a₁ b₁ c₁ d₁ x → PruneDone w cs vs ds ocs ovs ods hs a₂ b₂ c₂ d₂ y
    → (x ≡ y) × (a₁ ≡ a₂) × (b₁ ≡ b₂) × (c₁ ≡ c₂) × (d₁ ≡ d₂)
prune-once w cs vs ds ocs ovs ods hs a₁ b₁ c₁ d₁ a₂ b₂ c₂ d₂ x y p q = (
  one-pruned x y (p.reply ∙ sym q.reply),
  p.cares ∙ sym q.cares,
  p.values ∙ sym q.values,
  p.decisions ∙ sym q.decisions,
  p.headers ∙ sym q.headers,
)
