-- What was read, written again: the bytes of an image that passed.
use mathlib.Core.Path.{◌≡◌, refl, sym, ap, ap₂, ◌∙◌}
use mathlib.Core.List.{List, [], ◌∷◌, ◌++◌}
use Prim.Native.Nat.{ℕ, zero, suc, ◌+◌, ◌*◌, ◌≤◌, ◌<◌}
use native.Mathlib.Nat.{not-suc-le-zero}
use native.Mathlib.Omega.{arith}
use lib.Arith.{digits_div, digits_mod}
use lib.ListN.{length, get_or, take, drop, length-drop, take-append-drop}
use lib.Seq.{drop-drop, take-add, take_all}
use Rattle.rules.specs.Lists.{All}
use Rattle.rules.specs.Replies.{passed}
use Rattle.image_form.specs.Bytes.{le, number_in, part, bytes}
use Rattle.image_form.specs.Formats.{word_bytes, rule_size}
use Rattle.image_form.specs.declared.Entry.{Entry}
use Rattle.image_form.specs.Images.{Named, entry_with, rule_in, rules_in, entry_in, entries_in, lists_in, total, format_in, count_in, width_in, entries_of, lists_of, rule_bytes, rules_bytes, bodies_bytes, entry_bytes, entries_for, contents_bytes, bytes_of}
use Rattle.image_check.specs.Checks.{entries_check, contents_check, image_check}
use Rattle.image_form.proofs.FormatLaws.{rule-words}
use Rattle.image_form.proofs.NumberLaws.{length_part}
use Rattle.image_check.proofs.HeadLaws.{head-facts}
use Rattle.image_check.proofs.PassedLaws.{head_passed, contents-passed, entries-facts}
use Rattle.image_check.proofs.StepLaws.{contents-total}
use Rattle.image.proofs.SeekLaws.{length-entries, length-rules_in}

-- numbers that are bytes
abbrev pub AreBytes : List ℕ → Type 0
AreBytes bs = All (λ (b : ℕ). b < 256) bs

pub bytes_drop : (n : ℕ) (s : List ℕ) → AreBytes s → AreBytes (drop n s)
bytes_drop zero s h = h
bytes_drop (suc n) [] h = h
bytes_drop (suc n) (x ∷ s) h = bytes_drop n s h.1

bytes_take : (n : ℕ) (s : List ℕ) → AreBytes s → AreBytes (take n s)
bytes_take zero s h = tt
bytes_take (suc n) [] h = tt
bytes_take (suc n) (x ∷ s) h = (h.0, bytes_take n s h.1)

bytes_le : (l : List ℕ) → AreBytes l → bytes (length l) (le l) ≡ l
unfolding bytes le
bytes_le [] h = refl
bytes_le (b ∷ l) h =
    λ j. digits_mod (le l) h.0 j ∷ (ap (bytes (length l)) (digits_div (le l) h.0) ∙ bytes_le l h.1) j

bytes-num : (n p : ℕ) (s : List ℕ) → AreBytes s → p + n ≤ length s → bytes n (number_in n p s) ≡ part n p s
bytes-num n p s h fits =
    ap (λ (k : ℕ). bytes k (number_in n p s)) (sym (length_part n p s fits))
    ∙ bytes_le (part n p s) (bytes_take n (drop p s) (bytes_drop p s h))

glue : (a b n : ℕ) (s : List ℕ) → n ≡ a + b → take a s ++ take b (drop a s) ≡ take n s
glue a b n s e = sym (ap (λ (k : ℕ). take k s) e ∙ take-add a b s)

-- three parts in a row
three : (i j k : ℕ) (s : List ℕ) → part i 0 s ++ (part j i s ++ part k (i + j) s) ≡ take (i + (j + k)) s
three i j k s =
    sym (take-add i (j + k) s
    ∙ ap (λ (l : List ℕ). take i s ++ l) (take-add j k (drop i s) ∙ ap (λ (l : List ℕ). part j i s ++ take k l) (drop-drop j i s)))

rule-back : (fmt : ℕ) (s : List ℕ) → AreBytes s → rule_size fmt ≤ length s → rule_bytes fmt (rule_in fmt s) ≡ take (rule_size fmt) s
rule-back fmt s h fits =
    let w : ℕ = word_bytes fmt in
    let size : w + (w + 2) ≡ rule_size fmt = omega (arith, rule-words fmt) in
    (λ j. bytes-num w 0 s h (omega arith) j ++ (bytes-num w w s h (omega arith) j ++ bytes-num 2 (w + w) s h (omega arith) j)) ∙ three w w 2 s
    ∙ ap (λ (k : ℕ). take k s) size

entry-back : (s : List ℕ) → AreBytes s → 8 ≤ length s → entry_bytes (entry_in s) ≡ take 8 s
entry-back s h fits =
    (λ j. bytes-num 4 0 s h (omega arith) j ++ (bytes-num 2 4 s h (omega arith) j ++ bytes-num 2 6 s h (omega arith) j)) ∙ three 4 2 2 s

pub rules-back : (fmt n : ℕ) (s : List ℕ) → AreBytes s → rule_size fmt * n ≤ length s → rules_bytes fmt (rules_in fmt n s) ≡ take (rule_size fmt * n) s
unfolding rules_bytes rules_in
rules-back fmt zero s h fits = let e : 0 ≡ rule_size fmt * 0 = omega arith in ap (λ (k : ℕ). take k s) e
rules-back fmt (suc n) s h fits =
    ap₂ (λ (x y : List ℕ). x ++ y) (rule-back fmt s h (omega arith)) (rules-back fmt n (drop (rule_size fmt) s) (bytes_drop (rule_size fmt) s h) (omega (arith, length-drop (rule_size fmt) s)))
    ∙ glue (rule_size fmt) (rule_size fmt * n) (rule_size fmt * suc n) s (omega arith)

contents-back : (n : ℕ) (s : List ℕ) → AreBytes s → 8 * n ≤ length s → contents_bytes (entries_in n s) ≡ take (8 * n) s
unfolding contents_bytes entries_in
contents-back zero s h fits = refl
contents-back (suc n) s h fits =
    ap₂ (λ (x y : List ℕ). x ++ y) (entry-back s h (omega arith)) (contents-back n (drop 8 s) (bytes_drop 8 s h) (omega (arith, length-drop 8 s)))
    ∙ glue 8 (8 * n) (8 * suc n) s (omega arith)

bodies-back : (fmt : ℕ) (es : List Entry) (s : List ℕ) → AreBytes s → rule_size fmt * total es ≤ length s → bodies_bytes fmt (lists_in fmt es s) ≡ take (rule_size fmt * total es) s
unfolding bodies_bytes lists_in total
bodies-back fmt [] s h fits = let e : 0 ≡ rule_size fmt * 0 = omega arith in ap (λ (k : ℕ). take k s) e
bodies-back fmt (e ∷ es) s h fits =
    ap₂ (λ (x y : List ℕ). x ++ y) (rules-back fmt e.count s h (omega arith))
    (bodies-back fmt es (drop (rule_size fmt * e.count) s) (bytes_drop (rule_size fmt * e.count) s h) (omega (arith, length-drop (rule_size fmt * e.count) s)))
    ∙ glue (rule_size fmt * e.count) (rule_size fmt * total es) (rule_size fmt * (e.count + total es)) s (omega arith)

pub length-lists : (fmt : ℕ) (es : List Entry) (s : List ℕ) → length (lists_in fmt es s) ≡ length es
unfolding lists_in
length-lists fmt [] s = refl
length-lists fmt (e ∷ es) s = ap suc (length-lists fmt es (drop (rule_size fmt * e.count) s))

-- the entries that fine contents have are those that the writer makes
pub entries-back : (fmt size next least l : ℕ) (es : List Entry) (s : List ℕ) → entries_check fmt size next least l es ≡ passed → entries_for fmt next (lists_in fmt es s) ≡ es
unfolding entries_for lists_in
entries-back fmt size next least l [] s f = refl
entries-back fmt size next least l (e ∷ es) s f =
    let k = entries-facts fmt size next least l e es f in
    let n : length (rules_in fmt e.count s) ≡ e.count = length-rules_in fmt e.count s in
    (λ j. entry_with (sym k.0.starts j) (n j) e.id ∷ entries_for fmt (next + rule_size fmt * n j) (lists_in fmt es (drop (rule_size fmt * e.count) s)))
    ∙ ap (λ (r : List Entry). e ∷ r) (entries-back fmt size (next + rule_size fmt * e.count) (e.id + 1) (l + 1) es (drop (rule_size fmt * e.count) s) k.1)

head-back : (b : List ℕ) → 4 ≤ length b → b ≡ get_or b 0 0 ∷ get_or b 1 0 ∷ get_or b 2 0 ∷ get_or b 3 0 ∷ drop 4 b
head-back [] h = absurd (not-suc-le-zero h)
head-back (x ∷ []) h = absurd (omega arith)
head-back (x ∷ y ∷ []) h = absurd (omega arith)
head-back (x ∷ y ∷ z ∷ []) h = absurd (omega arith)
head-back (x ∷ y ∷ z ∷ u ∷ b) h = refl

bytes-are : (fmt w n : ℕ) (ls : List Named) (es : List Entry) → length ls ≡ n → entries_for fmt (4 + 8 * n) ls ≡ es
    → bytes_of fmt w ls ≡ fmt ∷ w ∷ n ∷ 0 ∷ (contents_bytes es ++ bodies_bytes fmt ls)
unfolding bytes_of
bytes-are fmt w n ls es p q =
    (λ j. fmt ∷ w ∷ p j ∷ 0 ∷ (contents_bytes (entries_for fmt (4 + 8 * p j) ls) ++ bodies_bytes fmt ls))
    ∙ ap (λ (r : List Entry). fmt ∷ w ∷ n ∷ 0 ∷ (contents_bytes r ++ bodies_bytes fmt ls)) q

rest_back : (b : List ℕ) → AreBytes b → 4 + 8 * count_in b ≤ length b → 4 + 8 * count_in b + rule_size (format_in b) * total (entries_of b) ≡ length b
    → contents_bytes (entries_of b) ++ bodies_bytes (format_in b) (lists_of b) ≡ drop 4 b
unfolding entries_of lists_of
rest_back b h fits sum =
    let n : ℕ = count_in b in
    let es : List Entry = entries_in n (drop 4 b) in
    let left : length (drop (4 + 8 * n) b) ≡ rule_size (format_in b) * total es = omega (arith, length-drop (4 + 8 * n) b, sum) in
    ap₂ (λ (x y : List ℕ). x ++ y)
    (contents-back n (drop 4 b) (bytes_drop 4 b h) (omega (arith, length-drop 4 b)))
    (bodies-back (format_in b) es (drop (4 + 8 * n) b) (bytes_drop (4 + 8 * n) b h) (omega arith)
    ∙ take_all (rule_size (format_in b) * total es) (drop (4 + 8 * n) b) (omega arith)
    ∙ sym (drop-drop (8 * n) 4 b))
    ∙ take-append-drop (8 * n) (drop 4 b)

pub length-lists_of : (b : List ℕ) → length (lists_of b) ≡ count_in b
unfolding lists_of entries_of
length-lists_of b = length-lists (format_in b) (entries_in (count_in b) (drop 4 b)) (drop (4 + 8 * count_in b) b) ∙ length-entries (count_in b) (drop 4 b)

pub entries-again : (b : List ℕ) → contents_check b ≡ passed → entries_for (format_in b) (4 + 8 * count_in b) (lists_of b) ≡ entries_of b
unfolding contents_check lists_of
entries-again b f = entries-back (format_in b) (length b) (4 + 8 * count_in b) 0 1 (entries_of b) (drop (4 + 8 * count_in b) b) f

-- the bytes of an image that passed are those of its format, its width and its lists
pub read-write : (b : List ℕ) → AreBytes b → image_check b ≡ passed → bytes_of (format_in b) (width_in b) (lists_of b) ≡ b
read-write b h f =
    let c = contents-passed b f in
    let k = head-facts b (head_passed b f) in
    bytes-are (format_in b) (width_in b) (count_in b) (lists_of b) (entries_of b) (length-lists_of b) (entries-again b c)
    ∙ (λ j. format_in b ∷ width_in b ∷ count_in b ∷ sym k.third j ∷ rest_back b h k.contents (contents-total b c) j)
    ∙ sym (head-back b k.least)
