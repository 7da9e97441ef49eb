use Prim.Native.Nat.{◌-◌}
use native.Mathlib.Omega.{arith}
use Rattle.words.proofs.WordLaws.{one_shifted, lowest-low, lowest-high, lowest-past}
use lib.Pow.{pow_pos}
use Rattle.bits.proofs.powers.lowest.Goals as goal

pub overflow_sub-result : goal.overflow_sub-result
overflow_sub-result c = omega (arith, one_shifted c.args.k (omega arith), pow_pos c.args.k)

pub returns-then-k-lt64 : goal.returns-then-k-lt64
returns-then-k-lt64 c = lowest-low _ (omega arith)

pub overflow_sub-result-then-k-lt128-2 : goal.overflow_sub-result-then-k-lt128-2
overflow_sub-result-then-k-lt128-2 c = omega (arith, one_shifted (c.args.k - 64) (omega arith), pow_pos (c.args.k - 64))

pub returns-then-k-lt128 : goal.returns-then-k-lt128
returns-then-k-lt128 c = lowest-high _ (omega arith) (omega arith)

pub returns : goal.returns
returns c = lowest-past _ (omega arith)
