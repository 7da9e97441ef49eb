use native.Mathlib.Omega.{arith}
use Rattle.words.proofs.WordLaws.{single-low, single-high, single-past}
use Rattle.bits.proofs.powers.single.Goals as goal

pub returns-then-k-lt64 : goal.returns-then-k-lt64
returns-then-k-lt64 c = single-low _ (omega arith)

pub returns-then-k-lt128 : goal.returns-then-k-lt128
returns-then-k-lt128 c = single-high _ (omega arith) (omega arith)

pub returns : goal.returns
returns c = single-past _ (omega arith)
