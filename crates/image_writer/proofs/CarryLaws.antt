-- From a writer's arguments to lists that can be carried, and from the lists of an image back to a writer's arguments.
use mathlib.Core.Path.{◌≡◌, refl, sym, ap, ap₂, ◌∙◌}
use mathlib.Core.List.{List, [], ◌∷◌, ◌++◌, map}
use Prim.Native.Nat.{ℕ, zero, suc, ◌+◌, ◌*◌, ◌≤◌, ◌<◌}
use native.Mathlib.Omega.{arith}
use lib.ListN.{length, take, drop, length-drop, length-append}
use lib.Seq.{length-take-le, take_at, drop_at}
use borrow.Author.Tests.{le-leb}
use Rattle.rules.specs.Rule.{Rule}
use Rattle.rules.specs.Lists.{All}
use Rattle.rules.specs.Replies.{passed}
use Rattle.rules.specs.Slices.{rules_of, care_of, value_of, decision_of, cares_of, values_of, decisions_of}
use Rattle.rules.proofs.ReplyLaws.{then_next, need-yes}
use Rattle.image_form.specs.Bytes.{le}
use Rattle.words.specs.Slices.{halves_of}
use Rattle.words.proofs.SliceLaws.{halves-length}
use Rattle.image_form.specs.Formats.{rule_size}
use Rattle.image_form.specs.declared.Entry.{Entry}
use Rattle.image_form.specs.Images.{Named, named, lists_in, total, format_in, count_in, width_in, entries_in, entries_of, lists_of}
use Rattle.image_check.specs.Checks.{entries_check, lists_check, contents_check, bodies_check, image_check}
use Rattle.image_writer.specs.Writing.{sum_of, lists_from, given, names_check, image_length, write_check}
use Rattle.image_check.proofs.CountLaws.{count-fine}
use Rattle.image_check.proofs.HeadLaws.{head-facts}
use Rattle.image_check.proofs.PassedLaws.{head_passed, contents-passed, bodies-passed, entries-facts}
use Rattle.image_check.proofs.StepLaws.{contents-total}
use Rattle.image.proofs.SeekLaws.{length-rules_in}
use Rattle.image.proofs.FullLaws.{HasRules, no-list-empty}
use Rattle.image_writer.proofs.GivenLaws.{CountsRules, names-facts, names-full}
use Rattle.image_writer.proofs.WriteLaws.{WriteFacts, facts-write, length_cut, rules-given}
use Rattle.image.proofs.BackLaws.{AreBytes, bytes_drop, length-lists_of}
use Rattle.image_writer.proofs.AgainLaws.{Rising, all_rules, Carried}
use Rattle.rules.proofs.SliceLaws.{rules-columns}

-- ---- from a writer's arguments

rising-cut : (l least : ℕ) (ids ns : List ℕ) (rs : List Rule) → All (λ (i : ℕ). i < 65536) ids → length ns ≡ length ids → sum_of ns ≤ length rs
    → names_check l least ids ns ≡ passed → Rising least (lists_from ids ns rs)
unfolding lists_from sum_of
rising-cut l least [] ns rs a h s f = tt
rising-cut l least (i ∷ is) [] rs a h s f = absurd (omega arith)
rising-cut l least (i ∷ is) (n ∷ ns) rs a h s f =
    let first = names-facts l least i n is ns f in
    let t : length (take n rs) ≡ n = length-take-le n rs (omega arith) in (
      first.0,
      a.0,
      omega (arith, t, first.2),
      rising-cut (l + 1) (i + 1) is ns (drop n rs) a.1 (omega arith) (omega (arith, length-drop n rs)) first.3,
    )

full-cut : (ids ns : List ℕ) (rs : List Rule) → sum_of ns ≤ length rs → All CountsRules ns → All HasRules (lists_from ids ns rs)
unfolding lists_from sum_of
full-cut [] ns rs s a = tt
full-cut (i ∷ is) [] rs s a = tt
full-cut (i ∷ is) (n ∷ ns) rs s a =
    let t : length (take n rs) ≡ n = length-take-le n rs (omega arith) in
    (omega (arith, t, a.0), full-cut is ns (drop n rs) (omega (arith, length-drop n rs)) a.1)

all-cut : (ids ns : List ℕ) (rs : List Rule) → length ns ≡ length ids → sum_of ns ≤ length rs → all_rules (lists_from ids ns rs) ≡ sum_of ns
unfolding lists_from sum_of
all-cut [] [] rs h s = refl
all-cut [] (n ∷ ns) rs h s = absurd (omega arith)
all-cut (i ∷ is) [] rs h s = absurd (omega arith)
all-cut (i ∷ is) (n ∷ ns) rs h s =
    ap₂ (λ (x y : ℕ). x + y) (length-take-le n rs (omega arith)) (all-cut is ns (drop n rs) (omega arith) (omega (arith, length-drop n rs)))

-- what a writer accepts can be carried
pub facts-carried : (fmt w : ℕ) (ids ns cs vs ds : List ℕ) (room : ℕ) → All (λ (i : ℕ). i < 65536) ids → WriteFacts fmt w ids ns cs vs ds room → Carried fmt w (given ids ns cs vs ds)
facts-carried fmt w ids ns cs vs ds room a f =
    let s = f.shape in
    let rs : List Rule = rules_of cs vs ds in
    let r : length rs ≡ length ds = rules-given fmt w ids ns cs vs ds s in
    let l = length_cut ids ns rs s.paired in
    let fits : sum_of ns ≤ length rs = omega (arith, s.sums) in
    record {
      format = s.format;
      low = s.least;
      high = s.most;
      some = omega (arith, s.some);
      few = omega (arith, s.few);
      rising = rising-cut 1 0 ids ns rs a s.paired fits f.names;
      full = full-cut ids ns rs fits (names-full 1 0 ids ns s.paired f.names);
      rules = f.rules;
      size = omega (arith, f.small, l, ap (λ (k : ℕ). rule_size fmt * k) (all-cut ids ns rs s.paired fits ∙ s.sums));
    }

-- ---- back to a writer's arguments

abbrev pub names_of : List Named → List ℕ
names_of [] = []
names_of (l ∷ ls) = l.id ∷ names_of ls

abbrev pub counts_of : List Named → List ℕ
counts_of [] = []
counts_of (l ∷ ls) = length l.rules ∷ counts_of ls

-- all rules, list after list
abbrev pub joined : List Named → List Rule
joined [] = []
joined (l ∷ ls) = l.rules ++ joined ls

pub length-names : (ls : List Named) → length (names_of ls) ≡ length ls
length-names [] = refl
length-names (l ∷ ls) = ap suc (length-names ls)

pub length-counts : (ls : List Named) → length (counts_of ls) ≡ length ls
length-counts [] = refl
length-counts (l ∷ ls) = ap suc (length-counts ls)

pub sum-counts : (ls : List Named) → sum_of (counts_of ls) ≡ all_rules ls
unfolding sum_of
sum-counts [] = refl
sum-counts (l ∷ ls) = ap (λ (k : ℕ). length l.rules + k) (sum-counts ls)

pub length-joined : (ls : List Named) → length (joined ls) ≡ all_rules ls
length-joined [] = refl
length-joined (l ∷ ls) = length-append l.rules (joined ls) ∙ ap (λ (k : ℕ). length l.rules + k) (length-joined ls)

pub cut-joined : (ls : List Named) → lists_from (names_of ls) (counts_of ls) (joined ls) ≡ ls
unfolding lists_from
cut-joined [] = refl
cut-joined (l ∷ ls) =
    (λ j. named l.id (take_at l.rules (joined ls) (length l.rules) refl j) ∷ lists_from (names_of ls) (counts_of ls) (drop_at l.rules (joined ls) (length l.rules) refl j))
    ∙ ap (λ (k : List Named). l ∷ k) (cut-joined ls)

pub length-column : (f : Rule → ℕ) (rs : List Rule) → length (map f rs) ≡ length rs
length-column f [] = refl
length-column f (r ∷ rs) = ap suc (length-column f rs)

pub length-words : (f : Rule → ℕ) (rs : List Rule) → length (halves_of (map f rs)) ≡ length rs * 2
length-words f rs = halves-length (map f rs) ∙ ap (λ (k : ℕ). k * 2) (length-column f rs)

names-rising : (l least : ℕ) (ls : List Named) → Rising least ls → All HasRules ls → names_check l least (names_of ls) (counts_of ls) ≡ passed
unfolding names_check
names-rising l least [] r u = refl
names-rising l least (x ∷ ls) r u =
    then_next _ _ (need-yes _ 13 l 0 (le-leb least x.id r.0))
    ∙ then_next _ _ (count-fine l (length x.rules) u.0 r.2)
    ∙ names-rising (l + 1) (x.id + 1) ls r.3 u.1

-- lists that can be carried pass the writer's checks, where there is room
pub carried-writes : (fmt w : ℕ) (ls : List Named) (room : ℕ) → Carried fmt w ls → image_length fmt (length ls) (all_rules ls) ≤ room
    → write_check fmt w (names_of ls) (counts_of ls) (cares_of (joined ls)) (values_of (joined ls)) (decisions_of (joined ls)) room ≡ passed
carried-writes fmt w ls room v h =
    let ids = names_of ls in
    let ns = counts_of ls in
    let cs = cares_of (joined ls) in
    let vs = values_of (joined ls) in
    let ds = decisions_of (joined ls) in
    let li : length ids ≡ length ls = length-names ls in
    let lc : length cs ≡ length (joined ls) * 2 = length-words care_of (joined ls) in
    let lv : length vs ≡ length (joined ls) * 2 = length-words value_of (joined ls) in
    let ld : length ds ≡ length (joined ls) = length-column decision_of (joined ls) in
    let size : image_length fmt (length ids) (length ds) ≡ image_length fmt (length ls) (all_rules ls) = ap₂ (image_length fmt) li (ld ∙ length-joined ls) in
    let same : given ids ns cs vs ds ≡ ls = ap (lists_from ids ns) (rules-columns (joined ls)) ∙ cut-joined ls in
    facts-write fmt w ids ns cs vs ds room
    (record {
      shape = record {
        format = v.format;
        least = v.low;
        most = v.high;
        paired = length-counts ls ∙ sym li;
        lent = record { values = lv ∙ sym lc; decisions = omega arith };
        sums = sum-counts ls ∙ sym (ld ∙ length-joined ls);
        some = omega (arith, v.some);
        few = omega (arith, v.few);
      };
      names = names-rising 1 0 ls v.rising v.full;
      rules = ap (lists_check w 1) same ∙ v.rules;
      small = omega (arith, v.size);
      fits = omega arith;
    })

-- ---- the lists of an image that passed can be carried

rising-in : (fmt size next least l : ℕ) (es : List Entry) (s : List ℕ) → All (λ (e : Entry). e.id < 65536) es → entries_check fmt size next least l es ≡ passed → Rising least (lists_in fmt es s)
unfolding lists_in
rising-in fmt size next least l [] s a f = tt
rising-in fmt size next least l (e ∷ es) s a f =
    let k = entries-facts fmt size next least l e es f in (
      k.0.rises,
      a.0,
      omega (arith, k.0.few, length-rules_in fmt e.count s),
      rising-in fmt size (next + rule_size fmt * e.count) (e.id + 1) (l + 1) es (drop (rule_size fmt * e.count) s) a.1 k.1,
    )

all_in : (fmt : ℕ) (es : List Entry) (s : List ℕ) → all_rules (lists_in fmt es s) ≡ total es
unfolding lists_in total
all_in fmt [] s = refl
all_in fmt (e ∷ es) s = ap₂ (λ (x y : ℕ). x + y) (length-rules_in fmt e.count s) (all_in fmt es (drop (rule_size fmt * e.count) s))

sums-in : (b : List ℕ) → all_rules (lists_of b) ≡ total (entries_of b)
unfolding lists_of
sums-in b = all_in (format_in b) (entries_of b) (drop (4 + 8 * count_in b) b)

rises-in : (b : List ℕ) → All (λ (e : Entry). e.id < 65536) (entries_of b) → contents_check b ≡ passed → Rising 0 (lists_of b)
unfolding lists_of contents_check
rises-in b a c = rising-in (format_in b) (length b) (4 + 8 * count_in b) 0 1 (entries_of b) (drop (4 + 8 * count_in b) b) a c

-- two bytes are below 65,536
two-below : (t : List ℕ) → AreBytes t → le (take 2 t) < 65536
unfolding le
two-below [] h = omega arith
two-below (x ∷ []) h = omega (arith, h.0)
two-below (x ∷ y ∷ t) h = omega (arith, h.0, h.1.0)

ids-below : (n : ℕ) (s : List ℕ) → AreBytes s → All (λ (e : Entry). e.id < 65536) (entries_in n s)
unfolding entries_in
ids-below zero s h = tt
ids-below (suc n) s h = (two-below (drop 6 s) (bytes_drop 6 s h), ids-below n (drop 8 s) (bytes_drop 8 s h))

pub ids-fit : (b : List ℕ) → AreBytes b → All (λ (e : Entry). e.id < 65536) (entries_of b)
unfolding entries_of
ids-fit b h = ids-below (count_in b) (drop 4 b) (bytes_drop 4 b h)

pub image-carried : (b : List ℕ) → All (λ (e : Entry). e.id < 65536) (entries_of b) → image_check b ≡ passed
    → Carried (format_in b) (width_in b) (lists_of b) × (image_length (format_in b) (length (lists_of b)) (all_rules (lists_of b)) ≡ length b)
unfolding bodies_check
image-carried b a f =
    let k = head-facts b (head_passed b f) in
    let c = contents-passed b f in
    let l = length-lists_of b in
    let n = sums-in b in
    let m = ap (λ (k : ℕ). rule_size (format_in b) * k) n in
    let t = contents-total b c in (
      record {
        format = k.zeroth;
        low = k.wide;
        high = k.narrow;
        some = omega (arith, k.some);
        few = omega (arith, k.few);
        rising = rises-in b a c;
        full = no-list-empty b f;
        rules = bodies-passed b f;
        size = omega (arith, k.most);
      },
      omega arith,
    )
