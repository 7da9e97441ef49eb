-- Numbers as decimal digits.
use Rattle.std.specs.Prelude.{ℕ, zero, suc, ◌+◌, ◌/◌, ◌%◌, List, [], ◌∷◌, ◌++◌}

-- The last digit of n, as a byte.
abbrev pub last_digit : ℕ → ℕ
last_digit n = 48 + n % 10

-- The digits of n, the most significant first, looking at no more than k of them. It stops where nothing is left of n, so
-- that no zero leads.
unfoldable pub digits_within : (k n : ℕ) → List ℕ
digits_within zero n = []
digits_within (suc k) zero = []
digits_within (suc k) (suc n) = digits_within k (suc n / 10) ++ (last_digit (suc n) ∷ [])

-- A number in decimal: the digits of its tenth, which are at most n, and then its last digit. So 0 is one digit.
unfoldable pub decimal : ℕ → List ℕ
unfolding digits_within
decimal n = digits_within n (n / 10) ++ (last_digit n ∷ [])
