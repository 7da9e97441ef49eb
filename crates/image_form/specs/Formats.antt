-- The two formats of an image: the bytes of a word and of a rule, and the greatest width (01, Image; Refusal numbers, 1 and 11).
-- This is the one file that knows them; every other definition has the format as a parameter. A number that is no
-- format is refused before anything else is asked of it; what these say of it is what they say of format 2.
use Rattle.std.specs.Prelude.{ℕ, ◌+◌, ◌*◌, Bool, ◌&&◌, ◌||◌, leb, eqb}
use Rattle.rules.specs.Rules.{choose}
use Rattle.rules.specs.Replies.{Reply, need}
use Rattle.image_form.specs.declared.FormatLayout.{FormatLayout}

-- There are formats 1 and 2, and byte 0 of an image says which.
unfoldable pub known : ℕ → Bool
known f = eqb f 1 || eqb f 2

-- A word takes 8 bytes in format 1, and 16 in format 2.
unfoldable pub word_bytes : ℕ → ℕ
word_bytes f = choose (eqb f 1) 8 16

-- A rule is a care word, a value word and two bytes: 18 bytes in format 1, and 34 in format 2.
unfoldable pub rule_size : ℕ → ℕ
rule_size f = word_bytes f + word_bytes f + 2

-- The greatest width: a place takes one bit of each word, so it is 64 in format 1, and 128 in format 2.
unfoldable pub most_places : ℕ → ℕ
most_places f = 8 * word_bytes f

-- The layout of a format: whether there is such a format, and the three numbers above.
abbrev pub layout_of : ℕ → FormatLayout
layout_of f = record { known = known f; word = word_bytes f; rule = rule_size f; places = most_places f }

-- Refusal 11: the format is not known.
unfoldable pub format_check : ℕ → Reply
format_check f = need (known f) 11 0 0

-- Refusal 1: the width is not one that the format has.
unfoldable pub range_check : (f w : ℕ) → Reply
range_check f w = need (leb 1 w && leb w (most_places f)) 1 0 0
