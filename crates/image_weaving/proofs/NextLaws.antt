-- The lists of an accepted image, squeezed one after the other: from the first k lists to one list more.
use mathlib.Core.Path.{◌≡◌, refl, sym, ap, ap₂, ◌∙◌, subst}
use mathlib.Core.List.{List, [], ◌∷◌, ◌++◌}
use Prim.Native.Nat.{ℕ, ◌+◌, ◌-◌, ◌*◌, ◌≤◌, ◌<◌}
use native.Mathlib.Omega.{arith}
use native.Mathlib.Numerals.{add-one}
use borrow.Author.Rules.{part_to_end}
use borrow.Author.Tests.{le-leb}
use lib.ListN.{length, take, drop, set, length-drop}
use lib.Seq.{length-take-le, take-length, take-append-le, drop-append-le, take-append-add, take-suc-set}
use Rattle.rules.specs.declared.Refusal.{Refusal}
use Rattle.std.specs.Prelude.{Result, Ok, IsOk}
use Rattle.rules.specs.Rule.{Rule}
use Rattle.rules.specs.Slices.{rules_of, care_of, value_of, decision_of, cares_of, values_of, decisions_of, Lent}
use Rattle.rules.specs.Replies.{Gives, passed}
use Rattle.rules.proofs.ReplyLaws.{then_next, need-yes, bare-first}
use Rattle.rules.proofs.SliceLaws.{rules-append, rules-columns, rules-length}
use Rattle.weaving.specs.declared.Tally.{Tally}
use Rattle.weaving.specs.Calls.{tally_values, woven_reply}
use Rattle.image_form.specs.declared.Entry.{Entry}
use Rattle.image_form.specs.Images.{Named, named, entry_in, format_in, width_in, count_in, lists_of}
use Rattle.image_form.specs.Parts.{entry_from}
use Rattle.image_form.proofs.PartLaws.{entry-there}
use Rattle.image_check.specs.Checks.{image_check}
use Rattle.image.specs.Places.{list_with}
use Rattle.image.specs.Calls.{id_check, read_reply}
use Rattle.image.proofs.SeekLaws.{image-facts}
use Rattle.image.proofs.AskLaws.{number_check, entry-told}
use Rattle.image.proofs.BackLaws.{AreBytes, length-lists_of}
use Rattle.image.proofs.Theorems.{rules_named, list-named}
use Rattle.image_writer.specs.Writing.{sum_of, lists_from, given}
use Rattle.image_writer.proofs.AgainLaws.{Carried, all_rules}
use Rattle.image_writer.proofs.CarryLaws.{image-carried, ids-fit, sum-counts, length-column, length-words}
use Rattle.image_writer.proofs.ListLaws.{list_at, named-at, entry_gives, read-gives, cut-back, columns-lent}
use Rattle.image_writer.proofs.CollectLaws.{lent-passes}
use Rattle.image_weaving.specs.declared.Squeeze.{Squeeze}
use Rattle.image_weaving.specs.Squeezing.{squeezed, squeezed_lists}
use Rattle.image_weaving.specs.Parts.{HoldsRules, lost, squeeze_counts, RoomFor, ListSqueezed, RoomForAll, ListsSqueezed}
use Rattle.image.proofs.ReadLaws.{bare-id, take-room}
use Rattle.image_weaving.proofs.OneLaws.{given-ok}
use Rattle.image_weaving.proofs.SqueezedLaws.{squeezed-never-longer, squeezed-more, squeezed-fewer, rules-split, rules-at, carried-rules}

-- ---- an accepted image

module _ (b : List ℕ) (h : AreBytes b) (f : image_check b ≡ passed) where
  pub accepted-carried : Carried (format_in b) (width_in b) (lists_of b)
  accepted-carried = (image-carried b (ids-fit b h) f).0

  pub accepted-few : count_in b ≤ 16
  accepted-few = (image-facts b [] f).head.few

  -- the list at a place, and the id that the contents tell of it
  module _ (k : ℕ) (below : k < count_in b) where
    within : 4 + 8 * k + 8 ≤ length b
    within = omega (arith, (image-facts b [] f).head.contents)

    place-id : (entry_from (4 + 8 * k) b).id ≡ (list_at (lists_of b) k).id
    place-id =
        let x : Entry = entry_from (4 + 8 * k) b in
        let same : k ≡ k + 1 - 1 = omega arith in
        let numbered : passed ≡ number_check (k + 1) (count_in b) =
        sym (then_next _ _ (need-yes _ 15 0 0 (le-leb 1 (k + 1) (omega arith))) ∙ need-yes _ 15 0 0 (le-leb (k + 1) (count_in b) (omega arith))) in
        let at : x ≡ entry_in (drop (4 + 8 * (k + 1 - 1)) b) = entry-there (4 + 8 * k) b within ∙ ap (λ (i : ℕ). entry_in (drop (4 + 8 * i) b)) same in
        let told : Gives (x.id ∷ x.count ∷ []) ≡ Gives ((list_at (lists_of b) k).id ∷ length (list_at (lists_of b) k).rules ∷ []) =
        entry-told b (k + 1) (count_in b) (sym f) refl x numbered at ∙ entry_gives b k f below in
        cc

    module _ (id : ℕ) (e : id ≡ (entry_from (4 + 8 * k) b).id) where
      pub place-list : list_with b id ≡ (list_at (lists_of b) k).rules
      place-list =
          list-named b id ∙ ap (λ (i : ℕ). rules_named i (lists_of b)) (e ∙ place-id)
          ∙ named-at 0 (lists_of b) k accepted-carried.rising (omega (arith, length-lists_of b))

      pub place-passes : id_check b id ≡ passed
      unfolding read_reply
      place-passes =
          let rs : List Rule = rules_named id (lists_of b) in
          bare-first (id_check b id) _ (bare-id b id) _
          (read-gives b k f below id (e ∙ place-id) (cares_of rs) (values_of rs) (decisions_of rs)
          (lent-passes (cares_of rs) (values_of rs) (decisions_of rs) (columns-lent rs)) (omega (arith, length-column decision_of rs)))

-- before the first list, nothing is squeezed
pub none-squeezed : (z : Squeeze) (b ids ns cs vs ds : List ℕ) → ListsSqueezed z b 0 0 ids ns cs vs ds
unfolding sum_of lists_from squeezed_lists
none-squeezed z b ids ns cs vs ds = record { fits = omega arith; sums = refl; lists = refl }

-- ---- one list more behind others

cut-more : (is ns : List ℕ) (rs : List Rule) (i : ℕ) (xs : List Rule) → length ns ≡ length is → sum_of ns ≡ length rs
    → lists_from (is ++ (i ∷ [])) (ns ++ (length xs ∷ [])) (rs ++ xs) ≡ lists_from is ns rs ++ (named i xs ∷ [])
unfolding lists_from sum_of
cut-more [] [] [] i xs e s = ap (λ (l : List Rule). named i l ∷ []) (take-length xs)
cut-more [] [] (r ∷ rs) i xs e s = absurd (omega arith)
cut-more [] (n ∷ ns) rs i xs e s = absurd (omega arith)
cut-more (j ∷ is) [] rs i xs e s = absurd (omega arith)
cut-more (j ∷ is) (n ∷ ns) rs i xs e s =
    (λ t. named j (take-append-le n rs xs (omega arith) t) ∷ lists_from (is ++ (i ∷ [])) (ns ++ (length xs ∷ [])) (drop-append-le n rs xs (omega arith) t))
    ∙ ap (λ (l : List Named). named j (take n rs) ∷ l) (cut-more is ns (drop n rs) i xs (omega arith) (omega (arith, length-drop n rs)))

sum_more : (ns : List ℕ) (n : ℕ) → sum_of (ns ++ (n ∷ [])) ≡ sum_of ns + n
unfolding sum_of
sum_more [] n = omega arith
sum_more (m ∷ ns) n = omega (arith, sum_more ns n)

-- the first places of a slice of which a later part came back with a column l in front
front-more : (a n m : ℕ) (s o x l : List ℕ) → a ≤ length s → m ≡ a + n → length l ≡ n → take n o ≡ l → take m (take a s ++ (o ++ x)) ≡ take a s ++ l
front-more a n m s o x l h e z p =
    let t : length (take a s) ≡ a = length-take-le a s h in
    ap (λ (i : ℕ). take i (take a s ++ (o ++ x))) (e ∙ ap (λ (i : ℕ). i + n) (sym t))
    ∙ take-append-add (take a s) (o ++ x) n
    ∙ ap (λ (q : List ℕ). take a s ++ q) (take-append-le n o x (take-room n o (sym (ap length p ∙ z))) ∙ p)

-- the rules of the first k lists, as three slices hold them
abbrev held_rules : (end : ℕ) → (cs vs ds : List ℕ) → List Rule
held_rules n cs vs ds = rules_of (take (n * 2) cs) (take (n * 2) vs) (take n ds)

-- the first k lists are squeezed, and there are more
module _ (z : Squeeze) (b : List ℕ) (k from : ℕ) (ids ns cs vs ds : List ℕ) (R : RoomForAll b ids ns cs vs ds) (below : k < count_in b) (L : ListsSqueezed z b k from ids ns cs vs ds) where
  pub next_place : k < 16
  next_place = omega (arith, accepted-few b R.bytes R.accepted)

  inside : k < length (lists_of b)
  inside = omega (arith, length-lists_of b)

  names-long : length (take k ids) ≡ k
  names-long = length-take-le k ids (omega (arith, R.ids, next_place))

  counts-long : length (take k ns) ≡ k
  counts-long = length-take-le k ns (omega (arith, R.counts, next_place))

  held-lent : Lent (take (from * 2) cs) (take (from * 2) vs) (take from ds)
  held-lent =
      let c : length (take (from * 2) cs) ≡ from * 2 = length-take-le (from * 2) cs (omega (arith, R.cares, L.fits)) in
      let v : length (take (from * 2) vs) ≡ from * 2 = length-take-le (from * 2) vs (omega (arith, R.values, L.fits)) in
      let d : length (take from ds) ≡ from = length-take-le from ds (omega (arith, R.decisions, L.fits)) in
      record { values = v ∙ sym c; decisions = ap (λ (n : ℕ). n * 2) d ∙ sym c }

  held-long : length (held_rules from cs vs ds) ≡ from
  held-long = rules-length _ _ _ held-lent ∙ length-take-le from ds (omega (arith, R.decisions, L.fits))

  -- so far there are no more rules than in the lists themselves
  end_is : from ≡ all_rules (squeezed_lists z (width_in b) (take k (lists_of b)))
  end_is =
      sym L.sums
      ∙ ap sum_of (sym (cut-back (take k ids) (take k ns) (held_rules from cs vs ds) (counts-long ∙ sym names-long) (L.sums ∙ sym held-long)).1)
      ∙ sum-counts (given (take k ids) (take k ns) (take (from * 2) cs) (take (from * 2) vs) (take from ds))
      ∙ ap all_rules L.lists

  -- there is room for the next list
  next-room : from + length (list_at (lists_of b) k).rules ≤ 3640
  next-room =
      omega (
        arith,
        end_is,
        squeezed-fewer z (width_in b) (take k (lists_of b)),
        rules-split k (lists_of b),
        rules-at k (lists_of b) inside,
        carried-rules (format_in b) (width_in b) (lists_of b) (accepted-carried b R.bytes R.accepted),
      )

  module _ (id : ℕ) (e : id ≡ (entry_from (4 + 8 * k) b).id) where
    next-list : list_with b id ≡ (list_at (lists_of b) k).rules
    next-list = place-list b R.bytes R.accepted k below id e

    later : (a : ℕ) (l : List ℕ) → length (take (length l - a) (drop a l)) ≡ length l - a
    later a l = ap length (part_to_end l a) ∙ length-drop a l

    -- the later parts of the slices have room for it
    pub next-room-for : RoomFor b id (take (length cs - from * 2) (drop (from * 2) cs)) (take (length vs - from * 2) (drop (from * 2) vs)) (take (length ds - from) (drop from ds))
    next-room-for =
        let c = later (from * 2) cs in
        let v = later (from * 2) vs in
        let d = later from ds in
        record {
          lent = record { values = omega (arith, R.cares, R.values, c, v); decisions = omega (arith, R.cares, R.decisions, c, d, L.fits) };
          room = λ f. omega (arith, R.decisions, d, next-room, ap length next-list);
        }

    module _ (r : Result Tally Refusal) (oc ov od : List ℕ) (W : ListSqueezed z b id r oc ov od) where
      said : woven_reply r ≡ squeeze_counts z (width_in b) (list_with b id)
      said = W.reply ∙ then_next _ _ (place-passes b R.bytes R.accepted k below id e)

      -- it is not refused
      pub next-answers : IsOk r
      next-answers = given-ok tally_values r said

      module _ (t : Tally) (p : r ≡ Ok t) where
        abbrev left : List Rule
        left = squeezed z (width_in b) (list_at (lists_of b) k).rules

        next-kept : t.kept ≡ length left
        next-kept =
            let q : Gives (t.kept ∷ t.dropped ∷ t.merged ∷ []) ≡ Gives (length (squeezed z (width_in b) (list_with b id)) ∷ lost z (width_in b) (list_with b id)) = sym (ap woven_reply p) ∙ said in
            let same : t.kept ≡ length (squeezed z (width_in b) (list_with b id)) = cc in
            same ∙ ap (λ (rs : List Rule). length (squeezed z (width_in b) rs)) next-list

        pub next_fits : from + t.kept ≤ 3640
        next_fits = omega (arith, next-room, next-kept, squeezed-never-longer z (width_in b) (list_at (lists_of b) k).rules)

        holds : HoldsRules left oc ov od
        holds = subst (λ (rs : List Rule). HoldsRules (squeezed z (width_in b) rs) oc ov od) next-list (W.held t p)

        -- with it, one list more is squeezed
        module _ (xc xv xd : List ℕ) where
          abbrev first : List ℕ → List ℕ
          first l = take (from * 2) l

          rules-next : held_rules (from + t.kept) (first cs ++ (oc ++ xc)) (first vs ++ (ov ++ xv)) (take from ds ++ (od ++ xd)) ≡ held_rules from cs vs ds ++ left
          rules-next =
              let twice : (from + t.kept) * 2 ≡ from * 2 + length left * 2 = omega (arith, next-kept) in
              (λ j. rules_of
              (front-more (from * 2) (length left * 2) ((from + t.kept) * 2) cs oc xc (cares_of left) (omega (arith, R.cares, L.fits)) twice (length-words care_of left) holds.cares j)
              (front-more (from * 2) (length left * 2) ((from + t.kept) * 2) vs ov xv (values_of left) (omega (arith, R.values, L.fits)) twice (length-words value_of left) holds.values j)
              (front-more from (length left) (from + t.kept) ds od xd (decisions_of left) (omega (arith, R.decisions, L.fits)) (omega (arith, next-kept)) (length-column decision_of left) holds.decisions j))
              ∙ rules-append _ _ _ _ _ _ held-lent
              ∙ ap (λ (l : List Rule). held_rules from cs vs ds ++ l) (rules-columns left)

          one_more : (l : List ℕ) (n : ℕ) → k < length l → take (k + 1) (set l k n) ≡ take k l ++ (n ∷ [])
          one_more l n m = ap (λ (i : ℕ). take i (set l k n)) (add-one k) ∙ take-suc-set l k n m

          pub next-squeezed : ListsSqueezed z b (k + 1) (from + t.kept) (set ids k id) (set ns k t.kept) (first cs ++ (oc ++ xc)) (first vs ++ (ov ++ xv)) (take from ds ++ (od ++ xd))
          next-squeezed =
              let names = one_more ids id (omega (arith, R.ids, next_place)) in
              let counts = one_more ns t.kept (omega (arith, R.counts, next_place)) in
              record {
                fits = next_fits;
                sums = ap sum_of counts ∙ sum_more (take k ns) t.kept ∙ ap (λ (n : ℕ). n + t.kept) L.sums;
                lists =
                    (λ j. lists_from (names j) ((counts ∙ ap (λ (n : ℕ). take k ns ++ (n ∷ [])) next-kept) j) (rules-next j))
                    ∙ cut-more (take k ids) (take k ns) (held_rules from cs vs ds) id left (counts-long ∙ sym names-long) (L.sums ∙ sym held-long)
                    ∙ ap₂ (λ (l : List Named) (i : ℕ). l ++ (named i left ∷ [])) L.lists (e ∙ place-id b R.bytes R.accepted k below)
                    ∙ sym (squeezed-more z (width_in b) (lists_of b) k inside);
              }
