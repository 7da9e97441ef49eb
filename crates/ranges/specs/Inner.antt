-- What the functions inside the library promise: the greatest prefix that starts at a number, and how far the slices are written.
use Rattle.std.specs.Prelude.{◌≡◌, List, Bool, true, false, ◌&&◌, ℕ, suc, ◌+◌, ◌%◌, ◌^◌, eqb, leb, length}
use Rattle.ranges.specs.Prefixes.{care_word, value_word}
use Rattle.ranges.specs.Ranges.{covering}
use Rattle.ranges.specs.Calls.{words_put}

-- A prefix of so many stars can start at a number and stay below the end.
unfoldable pub opens : (at end stars : ℕ) → Bool
opens at end s = eqb (at % 2 ^ s) 0 && leb (at + 2 ^ s) end

-- The greatest one: so many stars, and not one more.
pub record Widest (at end stars : ℕ) : Type 0 where
  pub opened : opens at end stars ≡ true
  pub full : opens at end (suc stars) ≡ false

-- Both slices after the prefixes of a range were written.
pub record PrefixesPut (b low end : ℕ) (cs vs cs' vs' : List ℕ) (n : ℕ) : Type 0 where
  pub count : n ≡ length (covering b low end)
  pub cares : cs' ≡ words_put (care_word b) (covering b low end) cs
  pub values : vs' ≡ words_put value_word (covering b low end) vs
