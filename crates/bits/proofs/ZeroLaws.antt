-- Laws of the zeros at the left end of a number of k bits: above the highest set bit there is none, and that bit is set.
use mathlib.Core.Path.{◌≡◌, subst}
use Prim.Native.Nat.{ℕ, suc, ◌+◌, ◌-◌, ◌/◌, ◌^◌, ◌≤◌, ◌<◌}
use native.Mathlib.Omega.{arith}
use native.Mathlib.Nat.{pow-suc, div-lt_iff_lt-mul, le-div_iff_mul-le}
use lib.Count.{count_leading_zeros, leading_length, leading_top}
use lib.Pow.{pow_pos}
use Rattle.words.specs.Words.{bit}
use Rattle.words.proofs.BitLaws.{bit_high}

-- the zeros are bits that are 0
pub leading-clear : (k a j : ℕ) → a < 2 ^ k → k ≤ count_leading_zeros k a + j → bit a j ≡ 0
leading-clear k a j h l =
    let t = leading_length k a h in
    bit_high t.0 a j t.2 (omega (arith, t.1))

-- a number from 2^j on and below 2^(j + 1) has its bit j
top_bit : (a j : ℕ) → 2 ^ j ≤ a → a < 2 ^ suc j → bit a j ≡ 1
top_bit a j l h =
    let low : 1 ≤ a / 2 ^ j = (le-div_iff_mul-le (pow_pos j)).1 (omega arith) in
    let high : a / 2 ^ j < 2 = (div-lt_iff_lt-mul (pow_pos j)).1 (omega (arith, pow-suc 2 j)) in
    omega arith

-- of a number that is not 0 there are fewer than k, and the bit behind them is set
pub leading-set : (k a : ℕ) → a < 2 ^ k → (a ≡ 0 → ⊥) → (count_leading_zeros k a < k) × (bit a (k - 1 - count_leading_zeros k a) ≡ 1)
leading-set k a h some =
    let t = leading_top k a (omega (arith, some)) h in
    let e : t.0 ≡ k - 1 - count_leading_zeros k a = omega (arith, t.1) in
    (omega (arith, t.1), subst (λ (j : ℕ). bit a j ≡ 1) e (top_bit a t.0 t.2 t.3))
