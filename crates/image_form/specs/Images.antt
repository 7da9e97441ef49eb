-- What the bytes of an image of format f stand for, and the bytes that stand for a width and lists (01, Image).
use Rattle.std.specs.Prelude.{ℕ, zero, suc, ◌+◌, ◌*◌, List, [], ◌∷◌, ◌++◌, length, get_or, drop}
use Rattle.rules.specs.Rule.{Rule}
use Rattle.rules.specs.Rules.{rule}
use Rattle.image_form.specs.declared.Entry.{Entry}
use Rattle.image_form.specs.Bytes.{number_in, bytes}
use Rattle.image_form.specs.Formats.{word_bytes, rule_size}

-- A contents entry of these three numbers: where the body starts, its number of rules, and the list's id.
abbrev pub entry_with : (offset count id : ℕ) → Entry
entry_with o n i = record { offset = o; count = n; id = i }

-- A list with its id.
pub record Named : Type 0 where
  pub id : ℕ
  pub rules : List Rule

abbrev pub named : ℕ → List Rule → Named
named i rs = record { id = i; rules = rs }

-- ---- from bytes

-- The entry in the first 8 bytes of s: offset (4), count (2), id (2).
abbrev pub entry_in : List ℕ → Entry
entry_in s = entry_with (number_in 4 0 s) (number_in 2 4 s) (number_in 2 6 s)

-- The rule in the first bytes of s: a care word, a value word, decision (2).
abbrev pub rule_in : (f : ℕ) → List ℕ → Rule
rule_in f s = rule (number_in (word_bytes f) 0 s) (number_in (word_bytes f) (word_bytes f) s) (number_in 2 (word_bytes f + word_bytes f) s)

-- The n entries that s starts with.
unfoldable pub entries_in : ℕ → List ℕ → List Entry
entries_in zero s = []
entries_in (suc n) s = entry_in s ∷ entries_in n (drop 8 s)

-- The n rules that s starts with.
unfoldable pub rules_in : (f n : ℕ) → List ℕ → List Rule
rules_in f zero s = []
rules_in f (suc n) s = rule_in f s ∷ rules_in f n (drop (rule_size f) s)

-- The lists of these entries, whose bodies stand in s one right after the other.
unfoldable pub lists_in : (f : ℕ) → List Entry → List ℕ → List Named
lists_in f [] s = []
lists_in f (e ∷ es) s = named e.id (rules_in f e.count s) ∷ lists_in f es (drop (rule_size f * e.count) s)

-- The rules of all entries together.
unfoldable pub total : List Entry → ℕ
total [] = 0
total (e ∷ es) = e.count + total es

-- Byte 0 is the format, byte 1 the width, byte 2 the number of lists.
abbrev pub format_in : List ℕ → ℕ
format_in bs = get_or bs 0 0

abbrev pub width_in : List ℕ → ℕ
width_in bs = get_or bs 1 0

abbrev pub count_in : List ℕ → ℕ
count_in bs = get_or bs 2 0

-- The contents of an image, and its lists.
unfoldable pub entries_of : List ℕ → List Entry
entries_of bs = entries_in (count_in bs) (drop 4 bs)

unfoldable pub lists_of : List ℕ → List Named
lists_of bs = lists_in (format_in bs) (entries_of bs) (drop (4 + 8 * count_in bs) bs)

-- ---- to bytes

abbrev pub rule_bytes : (f : ℕ) → Rule → List ℕ
rule_bytes f x = bytes (word_bytes f) x.care ++ (bytes (word_bytes f) x.value ++ bytes 2 x.decision)

unfoldable pub rules_bytes : (f : ℕ) → List Rule → List ℕ
rules_bytes f [] = []
rules_bytes f (x ∷ xs) = rule_bytes f x ++ rules_bytes f xs

unfoldable pub bodies_bytes : (f : ℕ) → List Named → List ℕ
bodies_bytes f [] = []
bodies_bytes f (l ∷ ls) = rules_bytes f l.rules ++ bodies_bytes f ls

abbrev pub entry_bytes : Entry → List ℕ
entry_bytes e = bytes 4 e.offset ++ (bytes 2 e.count ++ bytes 2 e.id)

unfoldable pub contents_bytes : List Entry → List ℕ
contents_bytes [] = []
contents_bytes (e ∷ es) = entry_bytes e ++ contents_bytes es

-- The entries of lists whose first body starts at byte `next`: each next body starts where the last ends.
unfoldable pub entries_for : (f next : ℕ) → List Named → List Entry
entries_for f next [] = []
entries_for f next (l ∷ ls) =
    entry_with next (length l.rules) l.id ∷ entries_for f (next + rule_size f * length l.rules) ls

-- The image of a format, a width and lists: the first four bytes, the contents, and the bodies in the same order.
unfoldable pub bytes_of : (f w : ℕ) → List Named → List ℕ
bytes_of f w ls =
    f ∷ w ∷ length ls ∷ 0 ∷ (contents_bytes (entries_for f (4 + 8 * length ls) ls) ++ bodies_bytes f ls)
