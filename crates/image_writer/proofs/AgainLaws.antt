-- What was written, read again.
use mathlib.Core.Path.{◌≡◌, refl, sym, ap, ◌∙◌, subst}
use mathlib.Core.Bool.{true}
use mathlib.Core.List.{List, [], ◌∷◌, ◌++◌, append_assoc, append-nil}
use Prim.Native.Nat.{ℕ, zero, suc, ◌+◌, ◌*◌, ◌/◌, ◌^◌, ◌≤◌, ◌<◌}
use native.Mathlib.Nat.{div-lt_iff_lt-mul, div-add-mod', pow-suc, lt_of_lt_of_le}
use native.Mathlib.Omega.{arith}
use lib.Dec.{lit<}
use lib.Bits.{and_le_r}
use lib.Pow.{pow_mono}
use lib.ListN.{length, take, drop, length-append}
use lib.Seq.{drop-drop, take_at, drop_at}
use borrow.Author.Tests.{eq-eqb}
use Rattle.rules.specs.Rule.{Rule}
use Rattle.rules.specs.Rules.{rule, Valid}
use Rattle.rules.specs.Lists.{All}
use Rattle.rules.specs.Replies.{passed}
use Rattle.rules.proofs.ReplyLaws.{then_next}
use Rattle.image_form.specs.Bytes.{le, number_in, bytes}
use Rattle.image_form.specs.Formats.{known, word_bytes, rule_size, most_places}
use Rattle.image_form.specs.declared.Entry.{Entry}
use Rattle.image_form.specs.Images.{Named, entry_with, rule_in, rules_in, entry_in, entries_in, lists_in, entries_of, lists_of, rule_bytes, rules_bytes, bodies_bytes, entry_bytes, entries_for, contents_bytes, bytes_of}
use Rattle.image_check.specs.Checks.{entries_check, lists_check, contents_check, head_check, bodies_check, image_check}
use Rattle.image_form.proofs.FormatLaws.{rule-words, places-words, places-bytes}
use Rattle.image_check.proofs.HeadLaws.{entry-fine, head-fine}
use Rattle.image_check.proofs.PassedLaws.{lists-facts}
use Rattle.image.proofs.FullLaws.{HasRules}
use Rattle.image_writer.proofs.PutLaws.{length-bytes, length-rules_bytes, length-contents}

-- ids rise from `least` on and fit two bytes; no list is too long
abbrev pub Rising : (least : ℕ) → List Named → Type 0
Rising least [] = Unit {0}
Rising least (l ∷ ls) = (least ≤ l.id) × (l.id < 65536) × (length l.rules ≤ 1024) × Rising (l.id + 1) ls

-- the rules of all lists together
abbrev pub all_rules : List Named → ℕ
all_rules [] = 0
all_rules (l ∷ ls) = length l.rules + all_rules ls

-- lists that an image of a format and a width can carry
pub record Carried (fmt w : ℕ) (ls : List Named) : Type 0 where
  pub format : known fmt ≡ true
  pub low : 1 ≤ w
  pub high : w ≤ most_places fmt
  pub some : 1 ≤ length ls
  pub few : length ls ≤ 16
  pub rising : Rising 0 ls
  pub full : All HasRules ls
  pub rules : lists_check w 1 ls ≡ passed
  pub size : 4 + 8 * length ls + rule_size fmt * all_rules ls ≤ 65536

le_bytes : (n x : ℕ) → x < 256 ^ n → le (bytes n x) ≡ x
unfolding le bytes
le_bytes zero x h = omega arith
le_bytes (suc n) x h =
    let q : x / 256 < 256 ^ n = (div-lt_iff_lt-mul (lit< tt)).1 (rw pow-suc at h) in
    omega (arith, le_bytes n (x / 256) q, div-add-mod' x 256)

-- where x's bytes stand at place p, the number there is x
get : (n p x : ℕ) (s t : List ℕ) → drop p s ≡ bytes n x ++ t → x < 256 ^ n → number_in n p s ≡ x
get n p x s t e h =
    ap (λ (l : List ℕ). le (take n l)) e ∙ ap le (take_at (bytes n x) t n (length-bytes n x)) ∙ le_bytes n x h

past : (n p x : ℕ) (s t : List ℕ) → drop p s ≡ bytes n x ++ t → drop (p + n) s ≡ t
past n p x s t e = sym (drop-drop n p s) ∙ ap (drop n) e ∙ drop_at (bytes n x) t n (length-bytes n x)

-- three numbers in a row
abbrev row : (i j k a b c : ℕ) → List ℕ → List ℕ
row i j k a b c t = bytes i a ++ (bytes j b ++ bytes k c) ++ t

module _ (i j k a b c : ℕ) (t : List ℕ) where
  row-0 : row i j k a b c t ≡ bytes i a ++ (bytes j b ++ (bytes k c ++ t))
  row-0 = simp append_assoc

  row-1 : drop i (row i j k a b c t) ≡ bytes j b ++ (bytes k c ++ t)
  row-1 = ap (drop i) row-0 ∙ drop_at (bytes i a) (bytes j b ++ (bytes k c ++ t)) i (length-bytes i a)

  row-2 : drop (i + j) (row i j k a b c t) ≡ bytes k c ++ t
  row-2 = past j i b (row i j k a b c t) (bytes k c ++ t) row-1

  row-3 : drop (i + j + k) (row i j k a b c t) ≡ t
  row-3 = past k (i + j) c (row i j k a b c t) t row-2

entry_read : (e : Entry) (t : List ℕ) → e.offset < 4294967296 → e.count < 65536 → e.id < 65536
    → (entry_in (entry_bytes e ++ t) ≡ e) × (drop 8 (entry_bytes e ++ t) ≡ t)
entry_read e t o n i =
    let s : List ℕ = entry_bytes e ++ t in (
      (λ j. entry_with (get 4 0 e.offset s _ (row-0 4 2 2 e.offset e.count e.id t) o j)
          (get 2 4 e.count s _ (row-1 4 2 2 e.offset e.count e.id t) n j)
          (get 2 6 e.id s _ (row-2 4 2 2 e.offset e.count e.id t) i j)),
      row-3 4 2 2 e.offset e.count e.id t,
    )

rule-read : (fmt : ℕ) (x : Rule) (t : List ℕ) → x.care < 256 ^ word_bytes fmt → x.value < 256 ^ word_bytes fmt → x.decision < 65536
    → (rule_in fmt (rule_bytes fmt x ++ t) ≡ x) × (drop (rule_size fmt) (rule_bytes fmt x ++ t) ≡ t)
rule-read fmt x t c v d =
    let s : List ℕ = rule_bytes fmt x ++ t in
    let w : ℕ = word_bytes fmt in (
      (λ j. rule (get w 0 x.care s _ (row-0 w w 2 x.care x.value x.decision t) c j)
          (get w w x.value s _ (row-1 w w 2 x.care x.value x.decision t) v j)
          (get 2 (w + w) x.decision s _ (row-2 w w 2 x.care x.value x.decision t) d j)),
      ap (λ (k : ℕ). drop k s) (rule-words fmt) ∙ row-3 w w 2 x.care x.value x.decision t,
    )

-- what the width holds, a word of the format holds
word : (fmt x w : ℕ) → w ≤ most_places fmt → x < 2 ^ w → x < 256 ^ word_bytes fmt
word fmt x w h lt =
    subst (λ (k : ℕ). x < k) (ap (λ (k : ℕ). 2 ^ k) (places-words fmt) ∙ places-bytes (word_bytes fmt)) (lt_of_lt_of_le lt (pow_mono h))

rules-read : (fmt w : ℕ) (xs : List Rule) (t : List ℕ) → w ≤ most_places fmt → All (Valid w) xs → rules_in fmt (length xs) (rules_bytes fmt xs ++ t) ≡ xs
unfolding rules_in rules_bytes
rules-read fmt w [] t h v = refl
rules-read fmt w (x ∷ xs) t h v =
    let k = v.0 in
    let small : x.value < 2 ^ w = omega (arith, k.fits, k.within, and_le_r x.value x.care) in
    let one = rule-read fmt x (rules_bytes fmt xs ++ t) (word fmt x.care w h k.fits) (word fmt x.value w h small) (omega (arith, k.decides)) in
    ap (λ (s : List ℕ). rule_in fmt s ∷ rules_in fmt (length xs) (drop (rule_size fmt) s)) (append_assoc (rule_bytes fmt x) (rules_bytes fmt xs) t)
    ∙ (λ j. one.0 j ∷ rules_in fmt (length xs) (one.1 j))
    ∙ ap (λ (ys : List Rule). x ∷ ys) (rules-read fmt w xs t h v.1)

length-bodies : (fmt : ℕ) (ls : List Named) → length (bodies_bytes fmt ls) ≡ rule_size fmt * all_rules ls
unfolding bodies_bytes
length-bodies fmt [] = omega arith
length-bodies fmt (l ∷ ls) = simp length-append (omega (arith, length-rules_bytes fmt l.rules, length-bodies fmt ls))

lists-read : (fmt w l next : ℕ) (ls : List Named) (t : List ℕ) → w ≤ most_places fmt → lists_check w l ls ≡ passed
    → lists_in fmt (entries_for fmt next ls) (bodies_bytes fmt ls ++ t) ≡ ls
unfolding lists_in entries_for bodies_bytes
lists-read fmt w l next [] t h f = refl
lists-read fmt w l next (x ∷ ls) t h f =
    let k = lists-facts w l x ls f in
    let n : ℕ = length x.rules in
    let es : List Entry = entries_for fmt (next + rule_size fmt * n) ls in
    let u : List ℕ = bodies_bytes fmt ls ++ t in
    ap (λ (s : List ℕ). record { id = x.id; rules = rules_in fmt n s } ∷ lists_in fmt es (drop (rule_size fmt * n) s)) (append_assoc (rules_bytes fmt x.rules) (bodies_bytes fmt ls) t)
    ∙ (λ j. record { id = x.id; rules = rules-read fmt w x.rules u h k.0 j }
    ∷ lists_in fmt es (drop_at (rules_bytes fmt x.rules) u (rule_size fmt * n) (length-rules_bytes fmt x.rules) j))
    ∙ ap (λ (ys : List Named). x ∷ ys) (lists-read fmt w (l + 1) (next + rule_size fmt * n) ls t h k.1)

-- the entries that the writer makes
length-entries_for : (fmt next : ℕ) (ls : List Named) → length (entries_for fmt next ls) ≡ length ls
unfolding entries_for
length-entries_for fmt next [] = refl
length-entries_for fmt next (l ∷ ls) = ap suc (length-entries_for fmt (next + rule_size fmt * length l.rules) ls)

entries-read : (fmt next least : ℕ) (ls : List Named) (t : List ℕ) → Rising least ls → next + rule_size fmt * all_rules ls ≤ 65536
    → entries_in (length ls) (contents_bytes (entries_for fmt next ls) ++ t) ≡ entries_for fmt next ls
unfolding entries_in entries_for contents_bytes
entries-read fmt next least [] t r h = refl
entries-read fmt next least (l ∷ ls) t r h =
    let n : ℕ = length l.rules in
    let e : Entry = entry_with next n l.id in
    let u : List ℕ = contents_bytes (entries_for fmt (next + rule_size fmt * n) ls) in
    let one = entry_read e (u ++ t) (omega arith) (omega arith) r.1 in
    ap (λ (s : List ℕ). entry_in s ∷ entries_in (length ls) (drop 8 s)) (append_assoc (entry_bytes e) u t)
    ∙ (λ j. one.0 j ∷ entries_in (length ls) (one.1 j))
    ∙ ap (λ (ys : List Entry). e ∷ ys) (entries-read fmt (next + rule_size fmt * n) (l.id + 1) ls t r.3 (omega arith))

entries-fine : (fmt size next least k : ℕ) (ls : List Named) → Rising least ls → All HasRules ls → next + rule_size fmt * all_rules ls ≡ size
    → entries_check fmt size next least k (entries_for fmt next ls) ≡ passed
unfolding entries_for entries_check
entries-fine fmt size next least k [] r u h = let e : next ≡ size = omega arith in simp eq-eqb
entries-fine fmt size next least k (l ∷ ls) r u h =
    let n : ℕ = length l.rules in
    then_next _ _ (sym (entry-fine fmt size next least k (entry_with next n l.id) r.0 refl u.0 r.2 (omega arith)))
    ∙ entries-fine fmt size (next + rule_size fmt * n) (l.id + 1) (k + 1) ls r.3 u.1 (omega arith)

module _ (fmt w : ℕ) (ls : List Named) (v : Carried fmt w ls) where
  pub length-bytes_of : length (bytes_of fmt w ls) ≡ 4 + 8 * length ls + rule_size fmt * all_rules ls
  unfolding bytes_of
  length-bytes_of =
      simp length-append
      (omega (arith, length-contents (entries_for fmt (4 + 8 * length ls) ls), length-entries_for fmt (4 + 8 * length ls) ls, length-bodies fmt ls))

  entries-are : entries_of (bytes_of fmt w ls) ≡ entries_for fmt (4 + 8 * length ls) ls
  unfolding entries_of bytes_of
  entries-are = entries-read fmt (4 + 8 * length ls) 0 ls (bodies_bytes fmt ls) v.rising v.size

  after : drop (4 + 8 * length ls) (bytes_of fmt w ls) ≡ bodies_bytes fmt ls ++ []
  unfolding bytes_of
  after =
      sym (drop-drop (8 * length ls) 4 (bytes_of fmt w ls))
      ∙ drop_at (contents_bytes (entries_for fmt (4 + 8 * length ls) ls)) (bodies_bytes fmt ls) (8 * length ls)
      (length-contents (entries_for fmt (4 + 8 * length ls) ls) ∙ ap (λ (k : ℕ). 8 * k) (length-entries_for fmt (4 + 8 * length ls) ls))
      ∙ sym (append-nil (bodies_bytes fmt ls))

  lists-are : lists_in fmt (entries_for fmt (4 + 8 * length ls) ls) (drop (4 + 8 * length ls) (bytes_of fmt w ls)) ≡ ls
  unfolding bytes_of
  lists-are =
      ap (lists_in fmt (entries_for fmt (4 + 8 * length ls) ls)) after
      ∙ lists-read fmt w 1 (4 + 8 * length ls) ls [] v.high v.rules

  pub carried-back : lists_of (bytes_of fmt w ls) ≡ ls
  unfolding lists_of bytes_of
  carried-back = ap (λ (es : List Entry). lists_in fmt es (drop (4 + 8 * length ls) (bytes_of fmt w ls))) entries-are ∙ lists-are

  head_ok : passed ≡ head_check (bytes_of fmt w ls)
  unfolding bytes_of
  head_ok =
      head-fine (bytes_of fmt w ls)
      (record {
        opened = record { least = omega (arith, length-bytes_of); most = omega (arith, length-bytes_of, v.size); zeroth = v.format };
        third = refl;
        wide = v.low;
        narrow = v.high;
      })
      v.some v.few (omega (arith, length-bytes_of))

  contents-ok : contents_check (bytes_of fmt w ls) ≡ passed
  unfolding contents_check bytes_of
  contents-ok =
      ap (entries_check fmt (length (bytes_of fmt w ls)) (4 + 8 * length ls) 0 1) entries-are
      ∙ entries-fine fmt (length (bytes_of fmt w ls)) (4 + 8 * length ls) 0 1 ls v.rising v.full (sym length-bytes_of)

  bodies-ok : bodies_check (bytes_of fmt w ls) ≡ passed
  unfolding bodies_check bytes_of
  bodies-ok = ap (lists_check w 1) carried-back ∙ v.rules

  -- the image of lists that can be carried passes
  pub carried-passes : image_check (bytes_of fmt w ls) ≡ passed
  unfolding image_check
  carried-passes =
      then_next (head_check (bytes_of fmt w ls)) _ (sym head_ok)
      ∙ then_next (contents_check (bytes_of fmt w ls)) (bodies_check (bytes_of fmt w ls)) contents-ok
      ∙ bodies-ok
