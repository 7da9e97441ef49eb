-- No second result: every call of this crate promises that its answer is one value.
use mathlib.Core.Path.{◌≡◌}
use Rattle.words.proofs.Unique.{once}

pub bits-once : {A : Type 0} {a b x : A} → a ≡ x → b ≡ x → a ≡ b
bits-once p q = once p q
