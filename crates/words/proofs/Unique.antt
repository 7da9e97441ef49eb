-- No second result: every call of this crate promises that its answer, or the slice that it leaves, is one value.
use Rattle.std.proofs.Common.{◌≡◌, sym, ◌∙◌}

pub once : {A : Type 0} {a b x : A} → a ≡ x → b ≡ x → a ≡ b
once p q = p ∙ sym q
