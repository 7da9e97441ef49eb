-- The writer's checks, and how the lists that it is given follow the slices.
use mathlib.Core.Path.{◌≡◌, refl, sym, ap, ap₂, ◌∙◌}
use mathlib.Core.List.{List, [], ◌∷◌}
use mathlib.Core.Bool.{true, false, ◌&&◌}
use Prim.Native.Nat.{ℕ, zero, suc, ◌+◌, ◌-◌, ◌*◌, ◌≤◌, ◌<◌}
use native.Mathlib.Numerals.{add-one}
use native.Mathlib.Omega.{arith}
use lib.Dec.{leb, eqb}
use lib.ListN.{length, get_or, take, drop, drop_of_length-le}
use lib.Seq.{drop-cons, drop-drop}
use borrow.Author.Tests.{eq-eqb, ne_eqb, le-leb, lt-leb, leb-true}
use Rattle.rules.specs.Lists.{All}
use Rattle.rules.specs.Rule.{Rule}
use Rattle.rules.specs.declared.Refusal.{Refusal}
use Rattle.rules.specs.Replies.{Refuses, passed, need, ◌then◌, refusal_reply}
use Rattle.rules.specs.Checks.{widest, lengths_check, rules_check}
use Rattle.rules.specs.Calls.{check_list}
use Rattle.rules.specs.Slices.{zipped, rules_of, Lent}
use Rattle.words.proofs.Tests.{true-and, and-true, eqb_yes, yes_eqb, same_test}
use Rattle.rules.proofs.ReplyLaws.{then_next, then-stop, then-refuses, need-yes, need-no, need-then, need-passed, then-second, Bare, bare-need, bare-then, bare-first}
use Rattle.rules.proofs.CheckLaws.{list-rules, width-inside, lengths-yes, room-yes}
use Rattle.rules.proofs.SliceLaws.{rules-take}
use Rattle.rules.proofs.ZipLaws.{ap₃}
use Rattle.words.proofs.SliceLaws.{words-drop}
use Rattle.words.specs.Slices.{words_of}
use Rattle.image_form.specs.Bytes.{part}
use Rattle.image_form.specs.Formats.{known, rule_size, most_places, format_check, range_check}
use Rattle.image_check.specs.Checks.{count_check, lists_check}
use Rattle.image_writer.specs.Writing.{sum_of, lists_from, given, names_check, image_length, given_check, shape_check, write_check}
use Rattle.image_form.proofs.FormatLaws.{places-most}
use Rattle.image_form.proofs.NumberLaws.{length_part}
use Rattle.image_check.proofs.CountLaws.{count_none, count-many, count-fine, count-facts, bare-count}

-- ---- counts

pub sum-turn : (ns : List ℕ) (i : ℕ) → i < length ns → sum_of (drop i ns) ≡ get_or ns i 0 + sum_of (drop (i + 1) ns)
unfolding sum_of
sum-turn ns i h = ap sum_of (drop-cons ns i 0 h) ∙ ap (λ (k : ℕ). get_or ns i 0 + sum_of (drop k ns)) (sym (add-one i))

-- the same in bytes
pub size-turn : (fmt : ℕ) (ns : List ℕ) (i n : ℕ) → i < length ns → n ≡ get_or ns i 0
    → rule_size fmt * sum_of (drop i ns) ≡ rule_size fmt * n + rule_size fmt * sum_of (drop (i + 1) ns)
size-turn fmt ns i n h e =
    let rest : ℕ = sum_of (drop (i + 1) ns) in
    let spread : rule_size fmt * (n + rest) ≡ rule_size fmt * n + rule_size fmt * rest = omega arith in
    ap (λ (k : ℕ). rule_size fmt * k) (sum-turn ns i h ∙ ap (λ (k : ℕ). k + rest) (sym e)) ∙ spread

pub sum-end : (ns : List ℕ) (i : ℕ) → length ns ≤ i → sum_of (drop i ns) ≡ 0
unfolding sum_of
sum-end ns i h = ap sum_of (drop_of_length-le ns h)

-- counted down: what is left of the rules, and what is left of the counts
pub sum_over : (ns : List ℕ) (i n left rules : ℕ) → i < length ns → n ≡ get_or ns i 0 → rules + sum_of (drop i ns) ≡ left + sum_of ns → left < n
    → false ≡ eqb (sum_of ns) rules
sum_over ns i n left rules h e k l = sym (ne_eqb (sum_of ns) rules (λ p. omega (arith, sum-turn ns i h)))

pub sum-all : (ns : List ℕ) (i left rules : ℕ) → length ns ≤ i → rules + sum_of (drop i ns) ≡ left + sum_of ns → eqb left 0 ≡ eqb (sum_of ns) rules
sum-all ns i left rules h k =
    same_test (eqb left 0) (eqb (sum_of ns) rules)
    (λ e. yes_eqb (sum_of ns) rules (omega (arith, eqb_yes left 0 e, sum-end ns i h)))
    (λ e. yes_eqb left 0 (omega (arith, eqb_yes (sum_of ns) rules e, sum-end ns i h)))

-- ---- refusal 2

-- what has equally long slices and the right sum passes
given-fine : (ids ns cs vs ds : List ℕ) → length ids ≡ length ns → length cs ≡ length vs → length cs ≡ length ds * 2 → sum_of ns ≡ length ds
    → given_check ids ns cs vs ds ≡ passed
unfolding given_check
given-fine ids ns cs vs ds l e f s =
    then_next _ _ (need-yes _ 2 0 0 (eq-eqb (length ids) (length ns) l)) ∙ then_next _ _ (lengths-yes cs vs ds e f)
    ∙ need-yes _ 2 0 0 (eq-eqb (sum_of ns) (length ds) s)

-- ---- refusals 11, 1, 2 and 12

-- what passing them says
pub record Shape (fmt w : ℕ) (ids ns cs vs ds : List ℕ) : Type 0 where
  pub format : known fmt ≡ true
  pub least : 1 ≤ w
  pub most : w ≤ most_places fmt
  pub paired : length ns ≡ length ids
  pub lent : Lent cs vs ds
  pub sums : sum_of ns ≡ length ds
  pub some : 1 ≤ length ids
  pub few : length ids ≤ 16

-- no format is wider than the rule library goes
pub shape-narrow : (fmt w : ℕ) (ids ns cs vs ds : List ℕ) → Shape fmt w ids ns cs vs ds → w ≤ widest
shape-narrow fmt w ids ns cs vs ds s = omega (arith, s.most, places-most fmt)

bare-given : (ids ns cs vs ds : List ℕ) → Bare (given_check ids ns cs vs ds)
unfolding given_check
bare-given ids ns cs vs ds =
    bare-then (need (eqb (length ids) (length ns)) 2 0 0) _
    (bare-then (lengths_check cs vs ds) _ (bare-need (eqb (sum_of ns) (length ds)) 2 0 0))

pub bare-shape : (fmt w : ℕ) (ids ns cs vs ds : List ℕ) → Bare (shape_check fmt w ids ns cs vs ds)
unfolding shape_check
bare-shape fmt w ids ns cs vs ds =
    bare-then (format_check fmt) _
    (bare-then (range_check fmt w) _
    (bare-then (given_check ids ns cs vs ds) _
    (bare-then (need (leb 1 (length ids)) 12 0 0) _ (bare-need (leb (length ids) 16) 12 0 0))))

pub shape-facts : (fmt w : ℕ) (ids ns cs vs ds : List ℕ) → shape_check fmt w ids ns cs vs ds ≡ passed → Shape fmt w ids ns cs vs ds
unfolding shape_check format_check range_check given_check lengths_check
shape-facts fmt w ids ns cs vs ds f =
    let r = then-second (need (known fmt) 11 0 0) _ [] f in
    let width = and-true (leb 1 w) (leb w (most_places fmt)) (need-then _ 1 0 0 _ [] r) in
    let g = then-second (need (leb 1 w && leb w (most_places fmt)) 1 0 0) _ [] r in
    let h = then-second (given_check ids ns cs vs ds) _ [] g in
    let i = then-second (need (leb 1 (length ids)) 12 0 0) _ [] h in
    let two = bare-first (given_check ids ns cs vs ds) _ (bare-given ids ns cs vs ds) [] g in
    let three = then-second (need (eqb (length ids) (length ns)) 2 0 0) _ [] two in
    let lengths = and-true (eqb (length cs) (length vs)) (eqb (length cs) (length ds * 2)) (need-then _ 2 0 0 _ [] three) in
    let sum = need-passed (eqb (sum_of ns) (length ds)) 2 0 0 (then-second (lengths_check cs vs ds) _ [] three) in
    record {
      format = need-then (known fmt) 11 0 0 _ [] f;
      least = leb-true _ _ width.0;
      most = leb-true _ _ width.1;
      paired = sym (eqb_yes _ _ (need-then (eqb (length ids) (length ns)) 2 0 0 _ [] two));
      lent = record { values = sym (eqb_yes _ _ lengths.0); decisions = sym (eqb_yes _ _ lengths.1) };
      sums = eqb_yes _ _ sum;
      some = leb-true _ _ (need-then (leb 1 (length ids)) 12 0 0 _ [] h);
      few = leb-true _ _ (need-passed (leb (length ids) 16) 12 0 0 i);
    }

-- what has all that passes them
pub shape-passes : (fmt w : ℕ) (ids ns cs vs ds : List ℕ) → Shape fmt w ids ns cs vs ds → shape_check fmt w ids ns cs vs ds ≡ passed
unfolding shape_check format_check range_check
shape-passes fmt w ids ns cs vs ds s =
    then_next _ _ (need-yes _ 11 0 0 s.format) ∙ then_next _ _ (need-yes _ 1 0 0 (true-and (le-leb 1 w s.least) (le-leb w (most_places fmt) s.most)))
    ∙ then_next _ _ (given-fine ids ns cs vs ds (sym s.paired) (sym s.lent.values) (sym s.lent.decisions) s.sums)
    ∙ then_next _ _ (need-yes _ 12 0 0 (le-leb 1 (length ids) s.some)) ∙ need-yes _ 12 0 0 (le-leb (length ids) 16 s.few)

-- ---- refusals 13, 24 and 3

module _ (least i : ℕ) (ids ns : List ℕ) (h : i < length ids) (l : length ns ≡ length ids) where
  names-turn : names_check (i + 1) least (drop i ids) (drop i ns)
      ≡ (need (leb least (get_or ids i 0)) 13 (i + 1) 0 then count_check (i + 1) (get_or ns i 0) then names_check (i + 1 + 1) (get_or ids i 0 + 1) (drop (i + 1) ids) (drop (i + 1) ns))
  unfolding names_check
  names-turn =
      ap₂ (names_check (i + 1) least) (drop-cons ids i 0 h) (drop-cons ns i 0 (omega arith))
      ∙ ap (λ (k : ℕ). need (leb least (get_or ids i 0)) 13 (i + 1) 0 then count_check (i + 1) (get_or ns i 0) then names_check (i + 1 + 1) (get_or ids i 0 + 1) (drop k ids) (drop k ns)) (sym (add-one i))

  module _ (id : ℕ) (e : id ≡ get_or ids i 0) where
    pub names-thirteen : id < least → names_check (i + 1) least (drop i ids) (drop i ns) ≡ Refuses 13 (i + 1) 0
    names-thirteen m = names-turn ∙ then-refuses _ _ (need-no _ 13 (i + 1) 0 (lt-leb least (get_or ids i 0) (omega (arith, e))))

    module _ (m : least ≤ id) (n : ℕ) (f : n ≡ get_or ns i 0) where
      names-counted : names_check (i + 1) least (drop i ids) (drop i ns)
          ≡ (count_check (i + 1) (get_or ns i 0) then names_check (i + 1 + 1) (get_or ids i 0 + 1) (drop (i + 1) ids) (drop (i + 1) ns))
      names-counted = names-turn ∙ then_next _ _ (need-yes _ 13 (i + 1) 0 (le-leb least (get_or ids i 0) (omega (arith, e))))

      pub names-twenty-four : n < 1 → names_check (i + 1) least (drop i ids) (drop i ns) ≡ Refuses 24 (i + 1) 0
      names-twenty-four k = names-counted ∙ then-refuses _ _ (count_none (i + 1) (get_or ns i 0) (omega (arith, f)))

      pub names-three : 1024 < n → names_check (i + 1) least (drop i ids) (drop i ns) ≡ Refuses 3 (i + 1) 0
      names-three k = names-counted ∙ then-refuses _ _ (count-many (i + 1) (get_or ns i 0) (omega (arith, f)))

      pub names-pass : 1 ≤ n → n ≤ 1024 → names_check (i + 1) least (drop i ids) (drop i ns) ≡ names_check (i + 1 + 1) (id + 1) (drop (i + 1) ids) (drop (i + 1) ns)
      names-pass j k =
          names-counted ∙ then_next _ _ (count-fine (i + 1) (get_or ns i 0) (omega (arith, f)) (omega (arith, f)))
          ∙ ap (λ (x : ℕ). names_check (i + 1 + 1) (x + 1) (drop (i + 1) ids) (drop (i + 1) ns)) (sym e)

pub names-end : (least i : ℕ) (ids ns : List ℕ) → length ids ≤ i → names_check (i + 1) least (drop i ids) (drop i ns) ≡ passed
unfolding names_check
names-end least i ids ns h = ap (λ (k : List ℕ). names_check (i + 1) least k (drop i ns)) (drop_of_length-le ids h)

pub bare-names : (l least : ℕ) (ids ns : List ℕ) → Bare (names_check l least ids ns)
unfolding names_check
bare-names l least [] ns ms e = refl
bare-names l least (i ∷ is) [] ms e = refl
bare-names l least (i ∷ is) (n ∷ ns) ms e =
    bare-then (need (leb least i) 13 l 0) _ (bare-then (count_check l n) _ (bare-names (l + 1) (i + 1) is ns)) ms e

-- what passing them says of the first list, and of the lists after it
pub names-facts : (l least i n : ℕ) (is ns : List ℕ) → names_check l least (i ∷ is) (n ∷ ns) ≡ passed
    → (least ≤ i) × (1 ≤ n) × (n ≤ 1024) × (names_check (l + 1) (i + 1) is ns ≡ passed)
unfolding names_check
names-facts l least i n is ns f =
    let g = then-second (need (leb least i) 13 l 0) _ [] f in
    let k = count-facts l n (bare-first (count_check l n) _ (bare-count l n) [] g) in
    (leb-true _ _ (need-then (leb least i) 13 l 0 _ [] f), k.0, k.1, then-second (count_check l n) _ [] g)

-- a count of a list that has a rule
abbrev pub CountsRules : ℕ → Type 0
CountsRules n = 1 ≤ n

-- no list of names that passed is empty
pub names-full : (l least : ℕ) (ids ns : List ℕ) → length ns ≡ length ids → names_check l least ids ns ≡ passed → All CountsRules ns
names-full l least [] [] h f = tt
names-full l least [] (n ∷ ns) h f = absurd (omega arith)
names-full l least (i ∷ is) [] h f = absurd (omega arith)
names-full l least (i ∷ is) (n ∷ ns) h f =
    let first = names-facts l least i n is ns f in
    (first.1, names-full (l + 1) (i + 1) is ns (omega arith) first.3)

-- and none is too long
pub names-small : (l least : ℕ) (ids ns : List ℕ) (i : ℕ) → length ns ≡ length ids → names_check l least ids ns ≡ passed → get_or ns i 0 ≤ 1024
names-small l least [] [] i e f = omega arith
names-small l least [] (n ∷ ns) i e f = absurd (omega arith)
names-small l least (k ∷ is) [] i e f = absurd (omega arith)
names-small l least (k ∷ is) (n ∷ ns) zero e f = (names-facts l least k n is ns f).2
names-small l least (k ∷ is) (n ∷ ns) (suc i) e f = names-small (l + 1) (k + 1) is ns i (omega arith) (names-facts l least k n is ns f).3

pub names-sum : (l least : ℕ) (ids ns : List ℕ) → length ns ≡ length ids → names_check l least ids ns ≡ passed → sum_of ns ≤ 1024 * length ids
unfolding sum_of
names-sum l least [] [] e f = omega arith
names-sum l least [] (n ∷ ns) e f = absurd (omega arith)
names-sum l least (k ∷ is) [] e f = absurd (omega arith)
names-sum l least (k ∷ is) (n ∷ ns) e f =
    let first = names-facts l least k n is ns f in
    omega (arith, first.2, names-sum (l + 1) (k + 1) is ns (omega arith) first.3)

-- ---- the rules of each list

no-values : (cs ds : List ℕ) → zipped cs [] ds ≡ []
unfolding zipped
no-values [] ds = refl
no-values (c ∷ cs) ds = refl

no-decisions : (cs vs : List ℕ) → zipped cs vs [] ≡ []
unfolding zipped
no-decisions [] vs = refl
no-decisions (c ∷ cs) [] = refl
no-decisions (c ∷ cs) (v ∷ vs) = refl

zipped-drop : (n : ℕ) (cs vs ds : List ℕ) → zipped (drop n cs) (drop n vs) (drop n ds) ≡ drop n (zipped cs vs ds)
unfolding zipped
zipped-drop zero cs vs ds = refl
zipped-drop (suc n) [] vs ds = refl
zipped-drop (suc n) (c ∷ cs) [] ds = no-values (drop n cs) (drop (suc n) ds)
zipped-drop (suc n) (c ∷ cs) (v ∷ vs) [] = no-decisions (drop n cs) (drop n vs)
zipped-drop (suc n) (c ∷ cs) (v ∷ vs) (d ∷ ds) = zipped-drop n cs vs ds

-- two entries of the care and the value slice go with each decision
pub rules-drop : (n m : ℕ) (cs vs ds : List ℕ) → m ≡ n * 2 → rules_of (drop m cs) (drop m vs) (drop n ds) ≡ drop n (rules_of cs vs ds)
rules-drop n m cs vs ds e = ap₃ zipped (words-drop cs n m e) (words-drop vs n m e) refl ∙ zipped-drop n (words_of cs) (words_of vs) ds

-- the rule library's check of a part of the three slices
list-part : (w l from n first k : ℕ) (cs vs ds : List ℕ) → 1 ≤ w → w ≤ widest → Lent cs vs ds → from + n ≤ length ds → n ≤ 1024 → first ≡ from * 2 → k ≡ n * 2
    → check_list w l (part k first cs) (part k first vs) (part n from ds) ≡ rules_check w l 1 (take n (drop from (rules_of cs vs ds)))
list-part w l from n first k cs vs ds a b lent h small p q =
    let x = length_part k first cs (omega (arith, lent.decisions)) in
    let y = length_part k first vs (omega (arith, lent.values, lent.decisions)) in
    let z = length_part n from ds h in
    list-rules w l (part k first cs) (part k first vs) (part n from ds) (width-inside w a b) (x ∙ sym y) (omega arith) (omega (arith, z))
    ∙ ap (rules_check w l 1) (rules-take n k (drop first cs) (drop first vs) (drop from ds) q ∙ ap (take n) (rules-drop from first cs vs ds p))

module _ (w i from n : ℕ) (ids ns : List ℕ) (rs : List Rule) (h : i < length ids) (l : length ns ≡ length ids) (e : n ≡ get_or ns i 0) where
  cut-turn : lists_check w (i + 1) (lists_from (drop i ids) (drop i ns) (drop from rs))
      ≡ (rules_check w (i + 1) 1 (take n (drop from rs)) then lists_check w (i + 1 + 1) (lists_from (drop (i + 1) ids) (drop (i + 1) ns) (drop (from + n) rs)))
  unfolding lists_check lists_from
  cut-turn =
      (λ j. lists_check w (i + 1) (lists_from (drop-cons ids i 0 h j) (drop-cons ns i 0 (omega arith) j) (drop from rs)))
      ∙ (λ j. rules_check w (i + 1) 1 (take (sym e j) (drop from rs)) then lists_check w (i + 1 + 1) (lists_from (drop (sym (add-one i) j) ids) (drop (sym (add-one i) j) ns) (drop (sym e j) (drop from rs))))
      ∙ ap (λ (k : List Rule). rules_check w (i + 1) 1 (take n (drop from rs)) then lists_check w (i + 1 + 1) (lists_from (drop (i + 1) ids) (drop (i + 1) ns) k)) (drop-drop n from rs)

module _ (w i from n end first last : ℕ) (ids ns cs vs ds : List ℕ) (h : i < length ids) (l : length ns ≡ length ids) (e : n ≡ get_or ns i 0) (low : 1 ≤ w) (high : w ≤ widest) (lent : Lent cs vs ds)
    (fits : from + n ≤ length ds) (small : n ≤ 1024) (is : end - from ≡ n) (at : first ≡ from * 2) (long : last - first ≡ n * 2) where
  told : check_list w (i + 1) (take (last - first) (drop first cs)) (take (last - first) (drop first vs)) (take (end - from) (drop from ds))
      ≡ rules_check w (i + 1) 1 (take n (drop from (rules_of cs vs ds)))
  told =
      ap (λ (k : ℕ). check_list w (i + 1) (part (last - first) first cs) (part (last - first) first vs) (part k from ds)) is
      ∙ list-part w (i + 1) from n first (last - first) cs vs ds low high lent fits small at long

  pub cut-stop : (x : Refusal) → refusal_reply x ≡ check_list w (i + 1) (take (last - first) (drop first cs)) (take (last - first) (drop first vs)) (take (end - from) (drop from ds))
      → lists_check w (i + 1) (lists_from (drop i ids) (drop i ns) (drop from (rules_of cs vs ds))) ≡ refusal_reply x
  cut-stop x p = cut-turn w i from n ids ns (rules_of cs vs ds) h l e ∙ then-stop _ _ x (sym (p ∙ told))

  pub cut-pass : end ≡ from + n → passed ≡ check_list w (i + 1) (take (last - first) (drop first cs)) (take (last - first) (drop first vs)) (take (end - from) (drop from ds))
      → lists_check w (i + 1) (lists_from (drop i ids) (drop i ns) (drop from (rules_of cs vs ds))) ≡ lists_check w (i + 1 + 1) (lists_from (drop (i + 1) ids) (drop (i + 1) ns) (drop end (rules_of cs vs ds)))
  cut-pass z p =
      cut-turn w i from n ids ns (rules_of cs vs ds) h l e ∙ then_next _ _ (sym (p ∙ told))
      ∙ ap (λ (k : ℕ). lists_check w (i + 1 + 1) (lists_from (drop (i + 1) ids) (drop (i + 1) ns) (drop k (rules_of cs vs ds)))) (sym z)

pub cut-end : (w i : ℕ) (ids ns : List ℕ) (rs : List Rule) → length ids ≤ i → lists_check w (i + 1) (lists_from (drop i ids) (drop i ns) rs) ≡ passed
unfolding lists_check lists_from
cut-end w i ids ns rs h = ap (λ (k : List ℕ). lists_check w (i + 1) (lists_from k (drop i ns) rs)) (drop_of_length-le ids h)

-- ---- all checks

pub write-fine : (fmt w : ℕ) (ids ns cs vs ds : List ℕ) (room : ℕ) → shape_check fmt w ids ns cs vs ds ≡ passed → names_check 1 0 ids ns ≡ passed
    → lists_check w 1 (given ids ns cs vs ds) ≡ passed → image_length fmt (length ids) (length ds) ≤ 65536 → image_length fmt (length ids) (length ds) ≤ room
    → write_check fmt w ids ns cs vs ds room ≡ passed
unfolding write_check
write-fine fmt w ids ns cs vs ds room s n l h k =
    then_next _ _ s ∙ then_next _ _ n ∙ then_next _ _ l ∙ then_next _ _ (need-yes _ 10 0 0 (le-leb (image_length fmt (length ids) (length ds)) 65536 h)) ∙ room-yes _ _ k
