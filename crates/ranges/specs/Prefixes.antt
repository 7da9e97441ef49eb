-- Prefixes of a field of so many bits, and the numbers that they cover (request 01).
use Rattle.std.specs.Prelude.{◌≡◌, List, [], ◌∷◌, Bool, ◌&&◌, ℕ, ◌+◌, ◌-◌, ◌%◌, ◌^◌, ◌≤◌, ◌<◌, eqb, leb, ltb}
use Rattle.std.specs.Int.Bits.{bit_and}
use Rattle.rules.specs.Rules.{choose}

-- A prefix: places that care, and behind them nothing but stars. It is told by the number of its stars and by the first number that it
-- covers, which has a 0 at each of them.
pub record Prefix : Type 0 where
  pub stars : ℕ
  pub first : ℕ

abbrev pub prefix : (stars first : ℕ) → Prefix
prefix s n = record { stars = s; first = n }

-- What a prefix of a field of so many bits keeps to: it has no more places than the field, and no value bit under a star.
pub record PrefixIn (bits : ℕ) (p : Prefix) : Type 0 where
  pub fits : p.stars ≤ bits
  pub within : p.first < 2 ^ bits
  pub clear : p.first % 2 ^ p.stars ≡ 0

-- Its two words (01, Patterns and lists): a care bit at each place before the stars and at no other (the laws `care-before` and
-- `care-after`), and the value of these places.
unfoldable pub care_word : (bits : ℕ) → Prefix → ℕ
care_word b p = 2 ^ b - 2 ^ p.stars

abbrev pub value_word : Prefix → ℕ
value_word p = p.first

-- Whether a number of the field matches a prefix, as a header matches a rule (01, Patterns and lists). That the numbers which match are
-- the 2^stars numbers from the first on is the law `prefix-matches-exactly`.
unfoldable pub prefix_matches : (bits : ℕ) → Prefix → (n : ℕ) → Bool
unfolding care_word
prefix_matches b p n = eqb (bit_and n (care_word b p)) (value_word p)

-- How many prefixes of a list a number matches.
unfoldable pub matching : (bits : ℕ) → List Prefix → (n : ℕ) → ℕ
unfolding prefix_matches
matching b [] n = 0
matching b (p ∷ ps) n = choose (prefix_matches b p n) 1 0 + matching b ps n

-- Whether a number lies from low to high.
abbrev pub in_range : (low high n : ℕ) → Bool
in_range low high n = leb low n && leb n high

-- These prefixes cover a range exactly: a number of the field matches one of them, or more, where it lies in the range, and else none.
abbrev pub CoversExactly : (bits low high : ℕ) → List Prefix → Type 0
CoversExactly b low high ps = (n : ℕ) → n < 2 ^ b → ltb 0 (matching b ps n) ≡ in_range low high n

-- One prefix comes before another: whatever it covers is less than whatever the other one covers.
abbrev pub Before : Prefix → Prefix → Type 0
Before p q = p.first + 2 ^ p.stars ≤ q.first
