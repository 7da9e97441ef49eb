-- The prefixes of a range of numbers: rising, and as few as there can be (request 01).
use Rattle.std.specs.Prelude.{List, [], ◌∷◌, ◌++◌, map, Bool, true, false, ◌&&◌, ℕ, zero, suc, ◌+◌, ◌-◌, ◌^◌, min, eqb, leb}
use Rattle.ranges.specs.Prefixes.{Prefix, prefix}

-- The prefix that covers, for each number of p, the number that is n greater.
abbrev pub shifted : (n : ℕ) → Prefix → Prefix
shifted n p = prefix p.stars (p.first + n)

-- By two tests: no prefix, one prefix, or its parts.
abbrev pub prefixes_by : (none whole : Bool) → Prefix → (parts : List Prefix) → List Prefix
prefixes_by true w p ps = []
prefixes_by false true p ps = p ∷ []
prefixes_by false false p ps = ps

-- The prefixes of the numbers from low on and below end, in a field of so many bits. Where there is no such number, none. Where they are
-- the whole field, the one that is all stars. Else those of the left half, the numbers whose first bit is 0, and then those of the right
-- half, the numbers whose first bit is 1: each half is a field of one bit less, and 2^b is the first number of the right one.
unfoldable pub covering : (bits low end : ℕ) → List Prefix
covering zero low end = prefixes_by (leb end low) true (prefix 0 0) []
covering (suc b) low end =
    prefixes_by (leb end low) (eqb low 0 && eqb end (2 ^ suc b)) (prefix (suc b) 0)
    (covering b low (min end (2 ^ b)) ++ map (shifted (2 ^ b)) (covering b (low - 2 ^ b) (end - 2 ^ b)))

-- The prefixes of the numbers from low to high. That they cover these and no other number, each once, that they rise, that no list of
-- prefixes does it with fewer, and no other one that rises with as few, are the theorems `range-exactly`, `range-rises`, `range-fewest`
-- and `range-only`.
abbrev pub range_prefixes : (bits low high : ℕ) → List Prefix
range_prefixes b low high = covering b low (high + 1)
