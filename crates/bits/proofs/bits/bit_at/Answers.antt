use native.Mathlib.Omega.{arith}
use Rattle.words.proofs.WordLaws.{bit-low, bit-upper, bit_past}
use Rattle.bits.proofs.bits.bit_at.Goals as goal

pub returns-then-k-lt64 : goal.returns-then-k-lt64
returns-then-k-lt64 c = bit-low _ (omega arith) _ (omega arith)

pub returns-then-k-lt128 : goal.returns-then-k-lt128
returns-then-k-lt128 c = bit-upper _ (omega arith) _ (omega arith)

pub returns : goal.returns
returns c = bit_past _ (omega arith) _ (omega arith) (omega arith)
