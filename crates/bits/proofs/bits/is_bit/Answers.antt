use Prim.Native.Nat.{ℕ}
use mathlib.Core.Path.{sym, ap}
use lib.Dec.{eqb}
use Rattle.words.proofs.BitLaws.{set_bits-ones}
use Rattle.bits.proofs.bits.is_bit.Goals as goal

pub returns : goal.returns
returns c = ap (λ (n : ℕ). eqb n 1) (sym (set_bits-ones c.args.x))
