-- Numbers as people write them: decimal digits, or hexadecimal ones after 0x.
use Rattle.std.specs.Prelude.{ℕ, ◌+◌, ◌-◌, ◌*◌, List, [], ◌∷◌, Bool, true, false, ◌&&◌, eqb, ltb, length, get_or, drop, Option, Some, None}
use Rattle.words.specs.Halves.{halves}
use Rattle.rules.specs.Rules.{choose}
use Rattle.words.specs.declared.Word.{Word}

-- The value of a byte as a digit: 0 to 9, then a to f in either case. 16 stands for no digit.
unfoldable pub digit_of : ℕ → ℕ
digit_of b =
    choose (ltb b 48) 16
    (choose (ltb b 58) (b - 48)
    (choose (ltb b 65) 16 (choose (ltb b 71) (b - 55) (choose (ltb b 97) 16 (choose (ltb b 103) (b - 87) 16)))))

abbrev pub number_if : Bool → Option Word → Option Word → Option Word
number_if true a b = a
number_if false a b = b

-- The number that digits of a base go on with after `n`: none where a byte is no digit of the base, or where the number
-- is not below the limit.
unfoldable pub goes_on : (limit base n : ℕ) → List ℕ → Option Word
goes_on limit base n [] = Some (halves n)
goes_on limit base n (b ∷ bs) =
    number_if (ltb (digit_of b) base && ltb (n * base + digit_of b) limit) (goes_on limit base (n * base + digit_of b) bs) None

-- A word that starts with 0x and goes on.
unfoldable pub marked : List ℕ → Bool
marked bs = ltb 2 (length bs) && (eqb (get_or bs 0 0) 48 && eqb (get_or bs 1 0) 120)

-- The number that a word stands for: hexadecimal after 0x, else decimal; the empty word is none.
unfoldable pub number_of : (limit : ℕ) → List ℕ → Option Word
number_of limit bs =
    number_if (marked bs) (goes_on limit 16 0 (drop 2 bs)) (number_if (eqb (length bs) 0) None (goes_on limit 10 0 bs))
