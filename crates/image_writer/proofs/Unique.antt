-- The writer's promise leaves no second result: two results that both meet it are equal, and so are the lent bytes afterwards.
use mathlib.Core.Path.{◌≡◌, sym, ◌∙◌}
use mathlib.Core.List.{List}
use Prim.Native.Nat.{ℕ}
use Rattle.std.specs.Prelude.{Result}
use Rattle.rules.specs.declared.Refusal.{Refusal}
use Rattle.rules.proofs.ReplyLaws.{one-number}
use Rattle.image_writer.specs.Writing.{Written}

-- `write`
pub write-once : (f w : ℕ) (ids ns cs vs ds out : List ℕ) (x y : Result ℕ Refusal) (out₁ out₂ : List ℕ)
    → Written f w ids ns cs vs ds out x out₁ → Written f w ids ns cs vs ds out y out₂ → (x ≡ y) × (out₁ ≡ out₂)
write-once f w ids ns cs vs ds out x y out₁ out₂ p q = (one-number x y (p.answer ∙ sym q.answer), p.bytes ∙ sym q.bytes)
