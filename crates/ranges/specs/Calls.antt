-- What the two public calls reply, and what stands in the lent slices afterwards (request 01).
use Rattle.std.specs.Prelude.{◌≡◌, Result, List, [], ◌∷◌, ◌++◌, map, Bool, ◌&&◌, ℕ, ◌^◌, eqb, leb, ltb, length, drop}
use Rattle.rules.specs.declared.Refusal.{Refusal}
use Rattle.rules.specs.Replies.{Reply, Gives, need, ◌then◌, number_reply, unless_refused}
use Rattle.rules.specs.Checks.{room_check}
use Rattle.ranges.specs.Prefixes.{Prefix, care_word, value_word}
use Rattle.ranges.specs.Ranges.{range_prefixes}

-- The greatest number of bits of a field. This is the one definition that names it.
abbrev pub widest_field : ℕ
widest_field = 16

-- Refusal 1: the field has not 1 to 16 bits.
unfoldable pub field_check : (bits : ℕ) → Reply
field_check b = need (leb 1 b && leb b widest_field) 1 0 0

-- Low is not above high, and high is a number of the field.
abbrev pub is_range : (bits low high : ℕ) → Bool
is_range b low high = leb low high && ltb high (2 ^ b)

-- Refusal 20: it is no range.
unfoldable pub bounds_check : (bits low high : ℕ) → Reply
bounds_check b low high = need (is_range b low high) 20 0 0

-- Refusal 2: the two result slices differ in length.
unfoldable pub same_length_check : (cares values : List ℕ) → Reply
same_length_check cs vs = need (eqb (length cs) (length vs)) 2 0 0

-- A range of a field: 1, then 20.
unfoldable pub check_range : (bits low high : ℕ) → Reply
check_range b low high = field_check b then bounds_check b low high

-- The checks of the range; else the number of prefixes.
unfoldable pub prefix_count_reply : (bits low high : ℕ) → Reply
prefix_count_reply b low high = check_range b low high then Gives (length (range_prefixes b low high) ∷ [])

-- The checks of the range, then 2 of the result slices, then 7: a place for each prefix.
unfoldable pub prefixes_check : (bits low high : ℕ) → (cares values : List ℕ) → Reply
prefixes_check b low high cs vs =
    check_range b low high
    then same_length_check cs vs
    then room_check (length (range_prefixes b low high)) (length cs)

-- These checks; else the number of prefixes.
unfoldable pub prefixes_reply : (bits low high : ℕ) → (cares values : List ℕ) → Reply
prefixes_reply b low high cs vs = prefixes_check b low high cs vs then Gives (length (range_prefixes b low high) ∷ [])

-- A slice after a word of each prefix was written into it: later places keep their contents.
unfoldable pub words_put : (Prefix → ℕ) → List Prefix → (old : List ℕ) → List ℕ
words_put f ps old = map f ps ++ drop (length ps) old

-- What `range_prefixes` promises: its reply, and what stands in each result slice afterwards.
pub record PrefixesDone (b low high : ℕ) (cs vs cs' vs' : List ℕ) (answer : Result ℕ Refusal) : Type 0 where
  pub reply : number_reply answer ≡ prefixes_reply b low high cs vs
  pub cares : cs'
      ≡ unless_refused (prefixes_reply b low high cs vs) (words_put (care_word b) (range_prefixes b low high) cs) cs
  pub values : vs'
      ≡ unless_refused (prefixes_reply b low high cs vs) (words_put value_word (range_prefixes b low high) vs) vs
