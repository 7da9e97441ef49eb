-- The lists of an image one by one: what `entry` and `read` give of each, and which part of the rules given to `write` each is.
use mathlib.Core.Path.{◌≡◌, refl, sym, ap, ap₂, ◌∙◌}
use mathlib.Core.List.{List, [], ◌∷◌, ◌++◌, map, map-append}
use mathlib.Core.Bool.{Bool, true, false}
use Prim.Native.Nat.{ℕ, zero, suc, ◌+◌, ◌-◌, ◌*◌, ◌≤◌, ◌<◌}
use native.Mathlib.Omega.{arith}
use lib.Dec.{eqb}
use lib.ListN.{length, get_or, take, drop, length-drop, take-append-drop}
use lib.Seq.{length-take-le, drop-drop}
use borrow.Author.Tests.{eq-eqb, ne_eqb, le-leb}
use Rattle.words.specs.Slices.{halves_of}
use Rattle.words.proofs.SliceLaws.{halves-append}
use Rattle.rules.specs.Rule.{Rule}
use Rattle.rules.specs.Slices.{rules_of, Lent, care_of, value_of, decision_of, cares_of, values_of, decisions_of}
use Rattle.rules.specs.Replies.{Gives, passed}
use Rattle.rules.specs.Checks.{lengths_check}
use Rattle.rules.proofs.ReplyLaws.{then_next, need-yes}
use Rattle.rules.proofs.CheckLaws.{room-yes}
use Rattle.rules.proofs.SliceLaws.{rules-columns}
use Rattle.std.specs.Prelude.{Some, is_some, Ok}
use Rattle.image_form.specs.Formats.{rule_size}
use Rattle.image_form.specs.declared.Entry.{Entry}
use Rattle.image_form.specs.Images.{entry_with, Named, named, lists_in, format_in, count_in, entries_of, lists_of}
use Rattle.image_check.specs.Checks.{image_check}
use Rattle.image.specs.Places.{place_in, place_at, pick_place, place_of, count_at, list_with}
use Rattle.image.specs.Calls.{entry_reply, id_check, read_reply, ReadOut}
use Rattle.image.proofs.SeekLaws.{length-entries, length-rules_in}
use Rattle.image.proofs.PassedLaws.{length-with}
use Rattle.image.proofs.ReadLaws.{Held, read_held}
use Rattle.image.proofs.Theorems.{rules_named, list-named}
use Rattle.image_writer.specs.Writing.{sum_of, lists_from}
use Rattle.image_writer.proofs.AgainLaws.{Rising}
use Rattle.image_writer.proofs.CarryLaws.{names_of, counts_of, joined, length-column, length-words}

-- the list at place k, counted from 0; a list of no rules past the end
abbrev pub list_at : List Named → (k : ℕ) → Named
list_at ls k = get_or ls k (named 0 [])

-- ---- which list an id names

rising-at : (least : ℕ) (ls : List Named) (k : ℕ) → Rising least ls → k < length ls → least ≤ (list_at ls k).id
rising-at least [] k r h = absurd (omega arith)
rising-at least (l ∷ ls) zero r h = r.0
rising-at least (l ∷ ls) (suc k) r h = omega (arith, r.0, rising-at (l.id + 1) ls k r.3 (omega arith))

-- where ids rise, an id names one list
pub named-at : (least : ℕ) (ls : List Named) (k : ℕ) → Rising least ls → k < length ls → rules_named (list_at ls k).id ls ≡ (list_at ls k).rules
unfolding rules_named
named-at least [] k r h = absurd (omega arith)
named-at least (l ∷ ls) zero r h = simp (eq-eqb l.id l.id refl)
named-at least (l ∷ ls) (suc k) r h =
    let above : l.id + 1 ≤ (list_at ls k).id = rising-at (l.id + 1) ls k r.3 (omega arith) in
    let other : eqb l.id (list_at ls k).id ≡ false = ne_eqb l.id (list_at ls k).id (λ e. omega arith) in
    simp other (named-at (l.id + 1) ls k r.3 (omega arith))

-- ---- the lists beside the contents

-- the list at a place has the id and the number of rules that the contents say
list-entry : (fmt : ℕ) (es : List Entry) (s : List ℕ) (k : ℕ)
    → ((list_at (lists_in fmt es s) k).id ≡ (get_or es k (entry_with 0 0 0)).id) × (length (list_at (lists_in fmt es s) k).rules ≡ (get_or es k (entry_with 0 0 0)).count)
unfolding lists_in
list-entry fmt [] s k = (refl, refl)
list-entry fmt (e ∷ es) s zero = (refl, length-rules_in fmt e.count s)
list-entry fmt (e ∷ es) s (suc k) = list-entry fmt es (drop (rule_size fmt * e.count) s) k

picked : (t : Bool) (fmt id next count from : ℕ) (es : List Entry) → is_some (place_in fmt id from es) ≡ true
    → is_some (pick_place t (Some (place_at next count)) (place_in fmt id from es)) ≡ true
picked true fmt id next count from es e = refl
picked false fmt id next count from es e = e

place_found : (fmt next : ℕ) (es : List Entry) (k : ℕ) → k < length es → is_some (place_in fmt (get_or es k (entry_with 0 0 0)).id next es) ≡ true
unfolding place_in
place_found fmt next [] k h = absurd (omega arith)
place_found fmt next (e ∷ es) zero h = simp (eq-eqb e.id e.id refl)
place_found fmt next (e ∷ es) (suc k) h =
    let i : ℕ = (get_or es k (entry_with 0 0 0)).id in
    let from : ℕ = next + rule_size fmt * e.count in
    picked (eqb e.id i) fmt i next e.count from es (place_found fmt from es k (omega arith))

module _ (b : List ℕ) (k : ℕ) where
  at_entry : ((list_at (lists_of b) k).id ≡ (get_or (entries_of b) k (entry_with 0 0 0)).id) × (length (list_at (lists_of b) k).rules ≡ (get_or (entries_of b) k (entry_with 0 0 0)).count)
  unfolding lists_of
  at_entry = list-entry (format_in b) (entries_of b) (drop (4 + 8 * count_in b) b) k

  at-found : k < count_in b → is_some (place_of b (list_at (lists_of b) k).id) ≡ true
  unfolding place_of entries_of
  at-found h =
      ap (λ (i : ℕ). is_some (place_of b i)) at_entry.0
      ∙ place_found (format_in b) (4 + 8 * count_in b) (entries_of b) k (omega (arith, length-entries (count_in b) (drop 4 b)))

  module _ (f : image_check b ≡ passed) (h : k < count_in b) where
    -- `entry` tells the id and the number of rules of the list at each place
    pub entry_gives : entry_reply b (k + 1) ≡ Gives ((list_at (lists_of b) k).id ∷ length (list_at (lists_of b) k).rules ∷ [])
    unfolding entry_reply
    entry_gives =
        let same : k + 1 - 1 ≡ k = omega arith in
        then_next _ _ f
        ∙ then_next _ _ (need-yes _ 15 0 0 (le-leb 1 (k + 1) (omega arith)))
        ∙ then_next _ _ (need-yes _ 15 0 0 (le-leb (k + 1) (count_in b) (omega arith)))
        ∙ ap (λ (i : ℕ). Gives ((get_or (entries_of b) i (entry_with 0 0 0)).id ∷ (get_or (entries_of b) i (entry_with 0 0 0)).count ∷ [])) same
        ∙ (λ j. Gives (sym at_entry.0 j ∷ sym at_entry.1 j ∷ []))

    -- `read` with that id, into slices that belong together and have room, gives the number of rules
    pub read-gives : (id : ℕ) → id ≡ (list_at (lists_of b) k).id → (c v d : List ℕ) → lengths_check c v d ≡ passed → length (rules_named id (lists_of b)) ≤ length d
        → read_reply b id c v d ≡ Gives (length (rules_named id (lists_of b)) ∷ [])
    unfolding read_reply id_check
    read-gives id e c v d l room =
        let size : count_at (place_of b id) ≡ length (rules_named id (lists_of b)) = sym (length-with b id) ∙ ap length (list-named b id) in
        then_next _ _ (then_next _ _ f ∙ need-yes _ 15 0 0 (ap (λ (i : ℕ). is_some (place_of b i)) e ∙ at-found h))
        ∙ then_next _ _ l
        ∙ then_next _ _ (room-yes _ _ (omega arith))
        ∙ ap (λ (n : ℕ). Gives (n ∷ [])) size

-- ---- what is in the slices after a read that came out

module _ (b : List ℕ) (id : ℕ) (c v d : List ℕ) (n : ℕ) (c' v' d' : List ℕ) (o : ReadOut b id c v d (Ok n) c' v' d') where
  held : Held n (list_with b id) c' v' d'
  held = read_held b id c v d (Ok n) c' v' d' o n refl

  -- the answer is the number of rules
  pub read-size : length (rules_named id (lists_of b)) ≡ n
  read-size = ap length (sym (list-named b id)) ∙ held.size

  -- the first places hold the rules of the list with that id, two entries of the care and of the value slice to a rule
  pub read-cares : take (n * 2) c' ≡ cares_of (rules_named id (lists_of b))
  read-cares = held.cares ∙ ap cares_of (list-named b id)

  pub read-values : take (n * 2) v' ≡ values_of (rules_named id (lists_of b))
  read-values = held.values ∙ ap values_of (list-named b id)

  pub read-decisions : take n d' ≡ decisions_of (rules_named id (lists_of b))
  read-decisions = held.decisions ∙ ap decisions_of (list-named b id)

  pub read-rules : rules_of (take (n * 2) c') (take (n * 2) v') (take n d') ≡ rules_named id (lists_of b)
  read-rules = (λ j. rules_of (read-cares j) (read-values j) (read-decisions j)) ∙ rules-columns (rules_named id (lists_of b))

-- ---- the lists that are given, one by one

-- the list at place k has the id at place k, and as many rules as the count there says, after those of the counts before it
pub cut-at : (ids ns : List ℕ) (rs : List Rule) (k : ℕ) → length ns ≡ length ids → k < length ids
    → list_at (lists_from ids ns rs) k ≡ named (get_or ids k 0) (take (get_or ns k 0) (drop (sum_of (take k ns)) rs))
unfolding lists_from sum_of
cut-at [] ns rs k e h = absurd (omega arith)
cut-at (i ∷ is) [] rs k e h = absurd (omega arith)
cut-at (i ∷ is) (n ∷ ns) rs zero e h = refl
cut-at (i ∷ is) (n ∷ ns) rs (suc k) e h =
    cut-at is ns (drop n rs) k (omega arith) (omega arith)
    ∙ ap (λ (l : List Rule). named (get_or is k 0) (take (get_or ns k 0) l)) (drop-drop (sum_of (take k ns)) n rs)

-- where the counts do not go past the rules, it has no fewer
pub cut-size : (ids ns : List ℕ) (rs : List Rule) (k : ℕ) → length ns ≡ length ids → k < length ids → sum_of ns ≤ length rs
    → length (list_at (lists_from ids ns rs) k).rules ≡ get_or ns k 0
unfolding lists_from sum_of
cut-size [] ns rs k e h s = absurd (omega arith)
cut-size (i ∷ is) [] rs k e h s = absurd (omega arith)
cut-size (i ∷ is) (n ∷ ns) rs zero e h s = length-take-le n rs (omega arith)
cut-size (i ∷ is) (n ∷ ns) rs (suc k) e h s = cut-size is ns (drop n rs) k (omega arith) (omega arith) (omega (arith, length-drop n rs))

-- ids, counts and rules that were cut into lists are those of the lists
pub cut-back : (ids ns : List ℕ) (rs : List Rule) → length ns ≡ length ids → sum_of ns ≡ length rs
    → (names_of (lists_from ids ns rs) ≡ ids) × (counts_of (lists_from ids ns rs) ≡ ns) × (joined (lists_from ids ns rs) ≡ rs)
unfolding lists_from sum_of
cut-back [] [] [] e s = (refl, refl, refl)
cut-back [] [] (r ∷ rs) e s = absurd (omega arith)
cut-back [] (n ∷ ns) rs e s = absurd (omega arith)
cut-back (i ∷ is) [] rs e s = absurd (omega arith)
cut-back (i ∷ is) (n ∷ ns) rs e s =
    let more = cut-back is ns (drop n rs) (omega arith) (omega (arith, length-drop n rs)) in (
      ap (λ (l : List ℕ). i ∷ l) more.0,
      ap₂ (λ (m : ℕ) (l : List ℕ). m ∷ l) (length-take-le n rs (omega arith)) more.1,
      ap (λ (l : List Rule). take n rs ++ l) more.2 ∙ take-append-drop n rs,
    )

-- ---- lists one after the other

-- ids, counts and slices that hold these lists
pub record Laid (ls : List Named) (ids ns cs vs ds : List ℕ) : Type 0 where
  pub names : ids ≡ names_of ls
  pub counts : ns ≡ counts_of ls
  pub cares : cs ≡ cares_of (joined ls)
  pub values : vs ≡ values_of (joined ls)
  pub decisions : ds ≡ decisions_of (joined ls)

-- the rules in the slices
pub laid-rules : (ls : List Named) (ids ns cs vs ds : List ℕ) → Laid ls ids ns cs vs ds → rules_of cs vs ds ≡ joined ls
laid-rules ls ids ns cs vs ds l = (λ j. rules_of (l.cares j) (l.values j) (l.decisions j)) ∙ rules-columns (joined ls)

-- the slices that hold given rules belong together
pub columns-lent : (rs : List Rule) → Lent (cares_of rs) (values_of rs) (decisions_of rs)
columns-lent rs =
    let c : length (cares_of rs) ≡ length rs * 2 = length-words care_of rs in
    record { values = length-words value_of rs ∙ sym c; decisions = ap (λ (k : ℕ). k * 2) (length-column decision_of rs) ∙ sym c }

-- so do slices that hold lists
pub laid-lent : (ls : List Named) (ids ns cs vs ds : List ℕ) → Laid ls ids ns cs vs ds → Lent cs vs ds
laid-lent ls ids ns cs vs ds l =
    let m = columns-lent (joined ls) in
    let c : length cs ≡ length (cares_of (joined ls)) = ap length l.cares in
    record { values = ap length l.values ∙ m.values ∙ sym c; decisions = ap (λ (d : List ℕ). length d * 2) l.decisions ∙ m.decisions ∙ sym c }

words-join : (g : Rule → ℕ) (xs ys : List Rule) → halves_of (map g (xs ++ ys)) ≡ halves_of (map g xs) ++ halves_of (map g ys)
words-join g xs ys = ap halves_of (map-append g xs ys) ∙ halves-append (map g xs) (map g ys)

-- no lists
pub laid_none : Laid [] [] [] [] [] []
unfolding halves_of
laid_none = record { names = refl; counts = refl; cares = refl; values = refl; decisions = refl }

-- a list before others
pub laid_more : (l : Named) (ls : List Named) (id n : ℕ) (c v d ids ns cs vs ds : List ℕ) → id ≡ l.id → n ≡ length l.rules
    → c ≡ cares_of l.rules → v ≡ values_of l.rules → d ≡ decisions_of l.rules → Laid ls ids ns cs vs ds → Laid (l ∷ ls) (id ∷ ids) (n ∷ ns) (c ++ cs) (v ++ vs) (d ++ ds)
laid_more l ls id n c v d ids ns cs vs ds i m p q s more =
    record {
      names = ap₂ (λ (x : ℕ) (xs : List ℕ). x ∷ xs) i more.names;
      counts = ap₂ (λ (x : ℕ) (xs : List ℕ). x ∷ xs) m more.counts;
      cares = ap₂ (λ (x y : List ℕ). x ++ y) p more.cares ∙ sym (words-join care_of l.rules (joined ls));
      values = ap₂ (λ (x y : List ℕ). x ++ y) q more.values ∙ sym (words-join value_of l.rules (joined ls));
      decisions = ap₂ (λ (x y : List ℕ). x ++ y) s more.decisions ∙ sym (map-append decision_of l.rules (joined ls));
    }
