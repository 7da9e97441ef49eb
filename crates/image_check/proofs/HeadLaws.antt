-- What the checks of the head and of a contents entry pass, and what they say that passed.
use mathlib.Core.Path.{◌≡◌, sym}
use mathlib.Core.List.{List, []}
use Prim.Native.Nat.{ℕ, ◌+◌, ◌*◌, ◌≤◌}
use native.Mathlib.Omega.{arith}
use lib.ListN.{length, get_or}
use mathlib.Core.Bool.{true, ◌&&◌}
use lib.Dec.{leb, eqb}
use borrow.Author.Tests.{le-leb, eq-eqb, leb-true, eqb-true}
use Rattle.rules.specs.Replies.{passed, need}
use Rattle.rules.specs.Checks.{widest}
use Rattle.rules.proofs.ReplyLaws.{need-then, need-passed, then_next, then-second, bare-first}
use Rattle.words.proofs.Tests.{and-true}
use Rattle.image_form.specs.Formats.{known, rule_size, most_places, format_check, range_check}
use Rattle.image_form.specs.declared.Entry.{Entry}
use Rattle.image_form.specs.Images.{format_in, width_in, count_in}
use Rattle.image_check.specs.Checks.{head_check, count_check, entry_check}
use Rattle.image_check.proofs.CountLaws.{count-fine, count-facts, bare-count}
use Rattle.image_form.proofs.FormatLaws.{places-most}

-- what the first three tests of a head leave: the size is right and the format is known
pub record Opened (b : List ℕ) : Type 0 where
  pub least : 4 ≤ length b
  pub most : length b ≤ 65536
  pub zeroth : known (format_in b) ≡ true

-- what the first six leave: byte 3 is 0 and the width is one that the format has, besides
pub record Ranged (b : List ℕ) : Type 0 where
  pub opened : Opened b
  pub third : get_or b 3 0 ≡ 0
  pub wide : 1 ≤ width_in b
  pub narrow : width_in b ≤ most_places (format_in b)

-- a ranged head whose contents fit is passed
pub head-fine : (b : List ℕ) → Ranged b → 1 ≤ count_in b → count_in b ≤ 16 → 4 + 8 * count_in b ≤ length b → passed ≡ head_check b
unfolding head_check format_check range_check
head-fine b r h7 h8 h9 =
    let h1 = r.opened.least in
    let h2 = r.opened.most in
    let h4 = r.third in
    let h5 = r.wide in
    let h6 = r.narrow in
    sym (simp (le-leb, eq-eqb, r.opened.zeroth))

pub entry-fine : (fmt size next least l : ℕ) (e : Entry) → least ≤ e.id → e.offset ≡ next → 1 ≤ e.count → e.count ≤ 1024 → next + rule_size fmt * e.count ≤ size
    → passed ≡ entry_check fmt size next least l e
unfolding entry_check
entry-fine fmt size next least l e h1 h2 h3 h4 h5 = sym (simp (le-leb, eq-eqb) (then_next _ _ (count-fine l e.count h3 h4)))

-- what an entry that passed says
pub record EntryFacts (fmt size next least : ℕ) (e : Entry) : Type 0 where
  pub rises : least ≤ e.id
  pub starts : e.offset ≡ next
  pub some : 1 ≤ e.count
  pub few : e.count ≤ 1024
  pub within : next + rule_size fmt * e.count ≤ size

pub entry-facts : (fmt size next least l : ℕ) (e : Entry) → entry_check fmt size next least l e ≡ passed → EntryFacts fmt size next least e
unfolding entry_check
entry-facts fmt size next least l e f =
    let a = then-second (need (leb least e.id) 13 l 0) _ [] f in
    let b = then-second (need (eqb e.offset next) 14 l 0) _ [] a in
    let k = count-facts l e.count (bare-first (count_check l e.count) _ (bare-count l e.count) [] b) in
    record {
      rises = leb-true _ _ (need-then (leb least e.id) 13 l 0 _ [] f);
      starts = eqb-true _ _ (need-then (eqb e.offset next) 14 l 0 _ [] a);
      some = k.0;
      few = k.1;
      within = leb-true _ _ (need-passed (leb (next + rule_size fmt * e.count) size) 10 l 0 (then-second (count_check l e.count) _ [] b));
    }

-- what a head that passed says
pub record HeadFacts (b : List ℕ) : Type 0 where
  pub least : 4 ≤ length b
  pub most : length b ≤ 65536
  pub zeroth : known (format_in b) ≡ true
  pub third : get_or b 3 0 ≡ 0
  pub wide : 1 ≤ width_in b
  pub narrow : width_in b ≤ most_places (format_in b)
  pub some : 1 ≤ count_in b
  pub few : count_in b ≤ 16
  pub contents : 4 + 8 * count_in b ≤ length b

pub head-facts : (b : List ℕ) → head_check b ≡ passed → HeadFacts b
unfolding head_check format_check range_check
head-facts b f =
    let f1 = then-second (need (leb 4 (length b)) 10 0 0) _ [] f in
    let f2 = then-second (need (leb (length b) 65536) 10 0 0) _ [] f1 in
    let f3 = then-second (need (known (format_in b)) 11 0 0) _ [] f2 in
    let f4 = then-second (need (eqb (get_or b 3 0) 0) 11 0 0) _ [] f3 in
    let f5 = then-second (need (leb 1 (width_in b) && leb (width_in b) (most_places (format_in b))) 1 0 0) _ [] f4 in
    let f6 = then-second (need (leb 1 (count_in b)) 12 0 0) _ [] f5 in
    let f7 = then-second (need (leb (count_in b) 16) 12 0 0) _ [] f6 in
    let w = and-true (leb 1 (width_in b)) (leb (width_in b) (most_places (format_in b))) (need-then _ 1 0 0 _ [] f4) in
    record {
      least = leb-true _ _ (need-then (leb 4 (length b)) 10 0 0 _ [] f);
      most = leb-true _ _ (need-then (leb (length b) 65536) 10 0 0 _ [] f1);
      zeroth = (need-then (known (format_in b)) 11 0 0 _ [] f2);
      third = eqb-true _ _ (need-then (eqb (get_or b 3 0) 0) 11 0 0 _ [] f3);
      wide = leb-true _ _ w.0;
      narrow = leb-true _ _ w.1;
      some = leb-true _ _ (need-then (leb 1 (count_in b)) 12 0 0 _ [] f5);
      few = leb-true _ _ (need-then (leb (count_in b) 16) 12 0 0 _ [] f6);
      contents = leb-true _ _ (need-passed (leb (4 + 8 * count_in b) (length b)) 12 0 0 f7);
    }

-- no format is wider than the rule library goes
pub head-narrow : (b : List ℕ) → HeadFacts b → width_in b ≤ widest
head-narrow b h = omega (arith, h.narrow, places-most (format_in b))
