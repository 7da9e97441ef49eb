-- The checks of an image, in document 01's order with request 07's number in its place: 10 (size), 11, 1, 12; per entry 13, 14, 24, 3
-- and 10; 10 (total); the rules.
use Rattle.std.specs.Prelude.{ℕ, ◌+◌, ◌*◌, List, [], ◌∷◌, length, get_or, leb, eqb}
use Rattle.rules.specs.Replies.{Reply, passed, need, ◌then◌}
use Rattle.rules.specs.Checks.{size_check, rules_check}
use Rattle.image_form.specs.Formats.{rule_size, format_check, range_check}
use Rattle.image_form.specs.declared.Entry.{Entry}
use Rattle.image_form.specs.Images.{Named, format_in, width_in, count_in, entries_of, lists_of}

-- The size, the first four bytes, and room for the contents.
unfoldable pub head_check : List ℕ → Reply
head_check bs =
    need (leb 4 (length bs)) 10 0 0
    then need (leb (length bs) 65536) 10 0 0
    then format_check (format_in bs)
    then need (eqb (get_or bs 3 0) 0) 11 0 0
    then range_check (format_in bs) (width_in bs)
    then need (leb 1 (count_in bs)) 12 0 0
    then need (leb (count_in bs) 16) 12 0 0
    then need (leb (4 + 8 * count_in bs) (length bs)) 12 0 0

-- The number n of rules of list number l: an image has no list without rules (24, request 07), and none with more than 1,024 (3).
unfoldable pub count_check : (l n : ℕ) → Reply
count_check l n = need (leb 1 n) 24 l 0 then size_check l n

-- Entry number l of an image of format f and `size` bytes: its id is `least` or more, its body starts at byte `next`, it has from 1 to
-- 1,024 rules, and its body does not pass the end.
unfoldable pub entry_check : (f size next least l : ℕ) → Entry → Reply
entry_check f size next least l e =
    need (leb least e.id) 13 l 0
    then need (eqb e.offset next) 14 l 0
    then count_check l e.count
    then need (leb (next + rule_size f * e.count) size) 10 l 0

-- The entries from number l on. The next id is greater than this one, and the next body starts where this one ends; the
-- image ends with the last body.
unfoldable pub entries_check : (f size next least l : ℕ) → List Entry → Reply
entries_check f size next least l [] = need (eqb next size) 10 0 0
entries_check f size next least l (e ∷ es) =
    entry_check f size next least l e
    then entries_check f size (next + rule_size f * e.count) (e.id + 1) (l + 1) es

-- The first body starts right after the contents.
unfoldable pub contents_check : List ℕ → Reply
contents_check bs = entries_check (format_in bs) (length bs) (4 + 8 * count_in bs) 0 1 (entries_of bs)

-- The rules of the lists from number l on: 4 and 5, the lower list first.
unfoldable pub lists_check : (w l : ℕ) → List Named → Reply
lists_check w l [] = passed
lists_check w l (x ∷ xs) = rules_check w l 1 x.rules then lists_check w (l + 1) xs

unfoldable pub bodies_check : List ℕ → Reply
bodies_check bs = lists_check (width_in bs) 1 (lists_of bs)

-- The whole image.
unfoldable pub image_check : List ℕ → Reply
image_check bs = head_check bs then contents_check bs then bodies_check bs
