-- The promise of each public call leaves no second result: not in the answer, and not in the lent bytes.
use mathlib.Core.Path.{◌≡◌, sym, ◌∙◌}
use mathlib.Core.List.{List}
use Prim.Native.Nat.{ℕ}
use Rattle.std.specs.Prelude.{Result}
use Rattle.rules.specs.declared.Refusal.{Refusal}
use Rattle.rules.proofs.ReplyLaws.{one-number}
use Rattle.weaving.specs.declared.Tally.{Tally}
use Rattle.weaving.specs.Calls.{woven_reply}
use Rattle.weaving.proofs.Unique.{one-woven}
use Rattle.image_weaving.specs.declared.Squeeze.{Squeeze}
use Rattle.image_weaving.specs.Squeezing.{ImageSqueezed}
use Rattle.image_weaving.specs.Weaving.{tally_reply}

-- `weave_image` and `prune_image`
pub squeeze-image-once : (z : Squeeze) (bs out : List ℕ) (x y : Result ℕ Refusal) (out₁ out₂ : List ℕ) → ImageSqueezed z bs out x out₁ → ImageSqueezed z bs out y out₂
    → (x ≡ y) × (out₁ ≡ out₂)
squeeze-image-once z bs out x y out₁ out₂ p q = (one-number x y (p.answer ∙ sym q.answer), p.bytes ∙ sym q.bytes)

-- `tally`
pub tally-once : (bs : List ℕ) (id : ℕ) (x y : Result Tally Refusal) → woven_reply x ≡ tally_reply bs id → woven_reply y ≡ tally_reply bs id → x ≡ y
tally-once bs id x y p q = one-woven x y (p ∙ sym q)
