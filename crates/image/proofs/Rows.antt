-- Document 01's 30-byte image, one byte less and one byte more (01, Tried by hand, last row), the same with a count of 0, and an image of
-- format 2 at width 65, by computation.
use mathlib.Core.Path.{◌≡◌, refl}
use mathlib.Core.List.{List, [], ◌∷◌, ◌++◌}
use Prim.Native.Nat.{ℕ}
use lib.ListN.{length, take, drop}
use Rattle.rules.specs.Rules.{rule}
use Rattle.rules.specs.Replies.{Refuses, passed}
use Rattle.rules.specs.Checks.{size_check, pattern_fits, rule_check, rules_check}
use Rattle.image_form.specs.Bytes.{le, bytes}
use Rattle.image_form.specs.Formats.{known, word_bytes, rule_size, most_places, format_check, range_check}
use Rattle.image_form.specs.Images.{Named, named, rules_in, entries_in, lists_in, entries_of, lists_of, rules_bytes, bodies_bytes, entries_for, contents_bytes, bytes_of}
use Rattle.image_check.specs.Checks.{head_check, count_check, entry_check, entries_check, contents_check, lists_check, bodies_check, image_check}
use Rattle.image.specs.Places.{place_in, place_of}
use Rattle.image.specs.Calls.{id_check}

abbrev image : List ℕ
image = 1 ∷ 3 ∷ 1 ∷ 0 ∷ 12 ∷ 0 ∷ 0 ∷ 0 ∷ 1 ∷ 0 ∷ 1 ∷ 0 ∷ 4 ∷ 0 ∷ 0 ∷ 0 ∷ 0 ∷ 0 ∷ 0 ∷ 0 ∷ 0 ∷ 0 ∷ 0 ∷ 0 ∷ 0 ∷ 0 ∷ 0 ∷ 0 ∷ 1 ∷ 0 ∷ []

-- id 1, `0**` at width 3, decision 1
abbrev lists : List Named
lists = named 1 (rule 4 0 1 ∷ []) ∷ []

-- It has 30 bytes.
pub row-length : length image ≡ 30
row-length = refl

-- It is accepted.
pub row-accepted : image_check image ≡ passed
unfolding image_check head_check contents_check bodies_check entries_check entry_check count_check lists_check format_check known range_check most_places word_bytes rule_size size_check rules_check rule_check pattern_fits entries_of lists_of entries_in lists_in rules_in le
row-accepted = refl

-- It carries that list.
pub row-lists : lists_of image ≡ lists
unfolding entries_of lists_of entries_in lists_in rules_in le word_bytes rule_size
row-lists = refl

-- The writer's bytes for that list are its bytes.
pub row-bytes : bytes_of 1 3 lists ≡ image
unfolding bytes_of contents_bytes bodies_bytes rules_bytes entries_for bytes word_bytes rule_size
row-bytes = refl

-- One byte less: the body of entry 1 passes the end.
pub row-less : image_check (take 29 image) ≡ Refuses 10 1 0
unfolding image_check head_check contents_check bodies_check entries_check entry_check count_check lists_check format_check known range_check most_places word_bytes rule_size size_check rules_check rule_check pattern_fits entries_of lists_of entries_in lists_in rules_in le
row-less = refl

-- One byte more: the image does not end with the last body.
pub row_more : image_check (image ++ (0 ∷ [])) ≡ Refuses 10 0 0
unfolding image_check head_check contents_check bodies_check entries_check entry_check count_check lists_check format_check known range_check most_places word_bytes rule_size size_check rules_check rule_check pattern_fits entries_of lists_of entries_in lists_in rules_in le
row_more = refl

-- The entry counts no rules: refused for it, whether the body stands there or not (request 07).
pub row-empty : (image_check (take 8 image ++ (0 ∷ 0 ∷ 1 ∷ 0 ∷ [])) ≡ Refuses 24 1 0) × (image_check (take 8 image ++ (0 ∷ 0 ∷ 1 ∷ 0 ∷ drop 12 image)) ≡ Refuses 24 1 0)
unfolding image_check head_check contents_check bodies_check entries_check entry_check count_check lists_check format_check known range_check most_places word_bytes rule_size size_check rules_check rule_check pattern_fits entries_of lists_of entries_in lists_in rules_in le
row-empty = (refl, refl)

-- No list has the id 2.
pub row_other : id_check image 2 ≡ Refuses 15 0 0
unfolding id_check image_check head_check contents_check bodies_check entries_check entry_check count_check lists_check format_check known range_check most_places word_bytes rule_size size_check rules_check rule_check pattern_fits entries_of lists_of entries_in lists_in rules_in le place_of place_in
row_other = refl

-- ---- format 2

-- All but the first two bytes of an image of one list with one rule at width 65: id 1, a 0 at place 1, decision 1.
abbrev rest : List ℕ
rest = 1 ∷ 0 ∷ 12 ∷ 0 ∷ 0 ∷ 0 ∷ 1 ∷ 0 ∷ 1 ∷ 0 ∷ 0 ∷ 0 ∷ 0 ∷ 0 ∷ 0 ∷ 0 ∷ 0 ∷ 0 ∷ 1 ∷ 0 ∷ 0 ∷ 0 ∷ 0 ∷ 0 ∷ 0 ∷ 0 ∷ 0 ∷ 0 ∷ 0 ∷ 0 ∷ 0 ∷ 0 ∷ 0 ∷ 0 ∷ 0 ∷ 0 ∷ 0 ∷ 0 ∷ 0 ∷ 0 ∷ 0 ∷ 0 ∷ 1 ∷ 0 ∷ []

abbrev wide : List Named
wide = named 1 (rule 18446744073709551616 0 1 ∷ []) ∷ []

-- It has 46 bytes.
pub row-wide-length : length (2 ∷ 65 ∷ rest) ≡ 46
row-wide-length = refl

-- It is accepted.
pub row-wide-accepted : image_check (2 ∷ 65 ∷ rest) ≡ passed
unfolding image_check head_check contents_check bodies_check entries_check entry_check count_check lists_check format_check known range_check most_places word_bytes rule_size size_check rules_check rule_check pattern_fits entries_of lists_of entries_in lists_in rules_in le
row-wide-accepted = refl

-- It carries that list.
pub row-wide-lists : lists_of (2 ∷ 65 ∷ rest) ≡ wide
unfolding entries_of lists_of entries_in lists_in rules_in le word_bytes rule_size
row-wide-lists = refl

-- The writer's bytes for that list are its bytes.
pub row-wide-bytes : bytes_of 2 65 wide ≡ 2 ∷ 65 ∷ rest
unfolding bytes_of contents_bytes bodies_bytes rules_bytes entries_for bytes word_bytes rule_size
row-wide-bytes = refl

-- Format 1 has no width 65.
pub row-too-wide : image_check (1 ∷ 65 ∷ rest) ≡ Refuses 1 0 0
unfolding image_check head_check contents_check bodies_check entries_check entry_check count_check lists_check format_check known range_check most_places word_bytes rule_size size_check rules_check rule_check pattern_fits entries_of lists_of entries_in lists_in rules_in le
row-too-wide = refl

-- There is no format 3.
pub row-unknown : image_check (3 ∷ 65 ∷ rest) ≡ Refuses 11 0 0
unfolding image_check head_check contents_check bodies_check entries_check entry_check count_check lists_check format_check known range_check most_places word_bytes rule_size size_check rules_check rule_check pattern_fits entries_of lists_of entries_in lists_in rules_in le
row-unknown = refl

-- Read as format 1 the same bytes are too many.
pub row-narrow : image_check (1 ∷ 64 ∷ rest) ≡ Refuses 10 0 0
unfolding image_check head_check contents_check bodies_check entries_check entry_check count_check lists_check format_check known range_check most_places word_bytes rule_size size_check rules_check rule_check pattern_fits entries_of lists_of entries_in lists_in rules_in le
row-narrow = refl

-- The rule has a bit at weight 2^64.
pub row-short : image_check (2 ∷ 64 ∷ rest) ≡ Refuses 4 1 1
unfolding image_check head_check contents_check bodies_check entries_check entry_check count_check lists_check format_check known range_check most_places word_bytes rule_size size_check rules_check rule_check pattern_fits entries_of lists_of entries_in lists_in rules_in le
row-short = refl

-- ---- the numbers of the two formats

pub format-1 : (word_bytes 1 ≡ 8) × (rule_size 1 ≡ 18) × (most_places 1 ≡ 64)
unfolding word_bytes rule_size most_places
format-1 = (refl, refl, refl)

pub format-2 : (word_bytes 2 ≡ 16) × (rule_size 2 ≡ 34) × (most_places 2 ≡ 128)
unfolding word_bytes rule_size most_places
format-2 = (refl, refl, refl)
