-- What a caller collects of an image by `entry` and `read`: the image's lists, one after the other, and all of them.
use mathlib.Core.Path.{◌≡◌, refl, sym, ap, ◌∙◌, subst}
use mathlib.Core.List.{List, [], ◌∷◌, ◌++◌, append-nil}
use Prim.Native.Nat.{ℕ, zero, suc, ◌+◌, ◌-◌, ◌*◌, ◌≤◌, ◌<◌}
use native.Mathlib.Omega.{arith}
use lib.ListN.{length, take, drop, drop_of_length-le}
use lib.Seq.{drop-cons, drop-length}
use Rattle.rules.specs.Rule.{Rule}
use Rattle.rules.specs.Slices.{Lent, decision_of, cares_of, values_of, decisions_of, filled}
use Rattle.rules.specs.Replies.{Gives, passed, unless_refused, number_reply}
use Rattle.rules.specs.Checks.{lengths_check}
use Rattle.rules.proofs.ReplyLaws.{then_next, one_value, bare-first, one-number}
use Rattle.rules.proofs.CheckLaws.{lengths-yes}
use Rattle.std.specs.Prelude.{Result, Ok}
use Rattle.rules.specs.declared.Refusal.{Refusal}
use Rattle.image_form.specs.Images.{Named, named, format_in, width_in, count_in, lists_of}
use Rattle.image_check.specs.Checks.{image_check}
use Rattle.image.specs.Places.{list_with}
use Rattle.image.specs.Replies.{listed_reply}
use Rattle.image.specs.Calls.{format_reply, width_reply, count_reply, entry_reply, read_reply, ReadOut}
use Rattle.image_check.proofs.BareLaws.{bare-image}
use Rattle.image.proofs.AskLaws.{entry-range}
use Rattle.image.proofs.BackLaws.{AreBytes, length-lists_of}
use Rattle.image.proofs.Theorems.{rules_named, list-named}
use Rattle.image_writer.proofs.AgainLaws.{Rising}
use Rattle.image_writer.proofs.CarryLaws.{image-carried, ids-fit, names_of, counts_of, joined, length-names, length-column}
use Rattle.image_writer.proofs.ListLaws.{list_at, named-at, entry_gives, read-gives, read-cares, read-values, read-decisions, Laid, columns-lent, laid_none, laid_more}

-- The lists of an image from entry number k on, as a caller collects them: `entry` tells an id and a count, `read` gives as many rules
-- for that id, and the first places of its slices stand before those of the lists that follow.
pub data Collected (b : List ℕ) : (k : ℕ) → (ids ns cs vs ds : List ℕ) → Type 0 where
  ended : {k : ℕ} → Collected b k [] [] [] [] []
  listed : {k id n : ℕ} {c v d c' v' d' ids ns cs vs ds : List ℕ} → listed_reply (Ok (record { id = id; rules = n })) ≡ entry_reply b k → ReadOut b id c v d (Ok n) c' v' d'
      → Collected b (k + 1) ids ns cs vs ds → Collected b k (id ∷ ids) (n ∷ ns) (take (n * 2) c' ++ cs) (take (n * 2) v' ++ vs) (take n d' ++ ds)

-- A whole image as a caller reads it: the answers of `format`, `width` and `count`, and as many lists as `count` says.
pub record ReadWhole (b : List ℕ) (f w : ℕ) (ids ns cs vs ds : List ℕ) : Type 0 where
  pub format : number_reply (Ok f) ≡ format_reply b
  pub width : number_reply (Ok w) ≡ width_reply b
  pub count : number_reply (Ok (length ids)) ≡ count_reply b
  pub lists : Collected b 1 ids ns cs vs ds

-- ---- list by list

-- slices that belong together pass their check
pub lent-passes : (cs vs ds : List ℕ) → Lent cs vs ds → lengths_check cs vs ds ≡ passed
lent-passes cs vs ds l = lengths-yes cs vs ds (sym l.values) (sym l.decisions)

-- what goes into a slice that held it
filled-again : (l : List ℕ) → filled l l ≡ l
filled-again l = ap (λ (r : List ℕ). l ++ r) (drop-length l) ∙ append-nil l

-- all lists after the first k, as a caller collects them
record Gathered (b : List ℕ) (k : ℕ) : Type 0 where
  ids : List ℕ
  ns : List ℕ
  cs : List ℕ
  vs : List ℕ
  ds : List ℕ
  lists : Collected b (k + 1) ids ns cs vs ds
  all : k + length ids ≡ count_in b

-- an accepted image, whose ids rise
module _ (b : List ℕ) (f : image_check b ≡ passed) (up : Rising 0 (lists_of b)) where
  -- the list that an entry tells
  entry-list : (k id n : ℕ) → k < count_in b → listed_reply (Ok (record { id = id; rules = n })) ≡ entry_reply b (k + 1)
      → (id ≡ (list_at (lists_of b) k).id) × (n ≡ length (list_at (lists_of b) k).rules) × (rules_named id (lists_of b) ≡ (list_at (lists_of b) k).rules)
  entry-list k id n h e =
      let l : Named = list_at (lists_of b) k in
      let told : Gives (id ∷ n ∷ []) ≡ Gives (l.id ∷ length l.rules ∷ []) = e ∙ entry_gives b k f h in
      let same : id ≡ l.id = cc in
      (same, cc, ap (λ (i : ℕ). rules_named i (lists_of b)) same ∙ named-at 0 (lists_of b) k up (omega (arith, length-lists_of b)))

  -- what is collected after the first k lists are the lists after them
  pub collected-from : (k at : ℕ) (ids ns cs vs ds : List ℕ) → Collected b at ids ns cs vs ds → at ≡ k + 1 → k + length ids ≡ count_in b → Laid (drop k (lists_of b)) ids ns cs vs ds
  collected-from k at ids ns cs vs ds ended p q =
      subst (λ (l : List Named). Laid l [] [] [] [] []) (sym (drop_of_length-le (lists_of b) {i = k} (omega (arith, length-lists_of b)))) laid_none
  collected-from k at ids ns cs vs ds (listed {id = id} {n = n} {c = c} {v = v} {d = d} {c' = c'} {v' = v'} {d' = d'} {ids = is} {ns = ms} {cs = cs₁} {vs = vs₁} {ds = ds₁} e o rest) p q =
      let x = entry-list k id n (omega arith) (e ∙ ap (entry_reply b) p) in
      subst (λ (l : List Named). Laid l (id ∷ is) (n ∷ ms) (take (n * 2) c' ++ cs₁) (take (n * 2) v' ++ vs₁) (take n d' ++ ds₁))
      (sym (drop-cons (lists_of b) k (named 0 []) (omega (arith, length-lists_of b))))
      (laid_more (list_at (lists_of b) k) (drop (suc k) (lists_of b)) id n (take (n * 2) c') (take (n * 2) v') (take n d') is ms cs₁ vs₁ ds₁ x.0 x.1
      (read-cares b id c v d n c' v' d' o ∙ ap cares_of x.2) (read-values b id c v d n c' v' d' o ∙ ap values_of x.2) (read-decisions b id c v d n c' v' d' o ∙ ap decisions_of x.2)
      (collected-from (suc k) (at + 1) is ms cs₁ vs₁ ds₁ rest (omega arith) (omega arith)))

  -- a list of the image, read into slices that just hold it
  list_read : (k : ℕ) → k < count_in b → (rs : List Rule) → rs ≡ (list_at (lists_of b) k).rules
      → ReadOut b (list_at (lists_of b) k).id (cares_of rs) (values_of rs) (decisions_of rs) (Ok (length rs)) (cares_of rs) (values_of rs) (decisions_of rs)
  list_read k below rs is =
      let id : ℕ = (list_at (lists_of b) k).id in
      let mine : rules_named id (lists_of b) ≡ rs = named-at 0 (lists_of b) k up (omega (arith, length-lists_of b)) ∙ sym is in
      let with-id : list_with b id ≡ rs = list-named b id ∙ mine in
      let gives : read_reply b id (cares_of rs) (values_of rs) (decisions_of rs) ≡ Gives (length rs ∷ []) =
      read-gives b k f below id refl (cares_of rs) (values_of rs) (decisions_of rs) (lent-passes (cares_of rs) (values_of rs) (decisions_of rs) (columns-lent rs))
      (omega (arith, ap length mine, length-column decision_of rs))
      ∙ ap (λ (xs : List Rule). Gives (length xs ∷ [])) mine in
      let same : (g : List Rule → List ℕ) → g rs ≡ unless_refused (read_reply b id (cares_of rs) (values_of rs) (decisions_of rs)) (filled (g (list_with b id)) (g rs)) (g rs) =
      λ g. sym ((λ j. unless_refused (gives j) (filled (g (with-id j)) (g rs)) (g rs)) ∙ filled-again (g rs)) in
      record { answer = sym gives; cares = same cares_of; values = same values_of; decisions = same decisions_of }

  -- there is such a collection
  gathered : (m k : ℕ) → k + m ≡ count_in b → Gathered b k
  gathered zero k e = record { ids = []; ns = []; cs = []; vs = []; ds = []; lists = ended; all = omega arith }
  gathered (suc m) k e =
      let more = gathered m (k + 1) (omega arith) in
      let rs : List Rule = (list_at (lists_of b) k).rules in
      let o = list_read k (omega arith) rs refl in
      record {
        ids = (list_at (lists_of b) k).id ∷ more.ids;
        ns = length rs ∷ more.ns;
        cs = take (length rs * 2) (cares_of rs) ++ more.cs;
        vs = take (length rs * 2) (values_of rs) ++ more.vs;
        ds = take (length rs) (decisions_of rs) ++ more.ds;
        lists = listed (sym (entry_gives b k f (omega arith))) o more.lists;
        all = omega (arith, more.all);
      }

-- ---- an accepted image

module _ (b : List ℕ) (h : AreBytes b) (f : image_check b ≡ passed) where
  -- its ids rise
  pub rises : Rising 0 (lists_of b)
  rises = (image-carried b (ids-fit b h) f).0.rising

  -- A list that `entry` tells is not refused: `read` with its id gives the count that `entry` told, where the slices belong together and
  -- have room.
  pub entry_read : (k id n : ℕ) (c v d c' v' d' : List ℕ) (r : Result ℕ Refusal) → listed_reply (Ok (record { id = id; rules = n })) ≡ entry_reply b k → lengths_check c v d ≡ passed → n ≤ length d
      → ReadOut b id c v d r c' v' d' → r ≡ Ok n
  entry_read k id n c v d c' v' d' r e l room o =
      let in-range = entry-range b k (id ∷ n ∷ []) (sym e) in
      let same : k ≡ k - 1 + 1 = omega (arith, in-range.0) in
      let below : k - 1 < count_in b = omega (arith, in-range.0, in-range.1) in
      let x = entry-list b f rises (k - 1) id n below (e ∙ ap (entry_reply b) same) in
      let size : length (rules_named id (lists_of b)) ≡ n = ap length x.2 ∙ sym x.1 in
      one-number r (Ok n) (o.answer ∙ read-gives b (k - 1) f below id x.0 c v d l (omega (arith, size)) ∙ ap (λ (i : ℕ). Gives (i ∷ [])) size)

  -- Every accepted image can be read whole: what comes out is its format, its width and its lists.
  pub readable : ReadWhole b (format_in b) (width_in b) (names_of (lists_of b)) (counts_of (lists_of b)) (cares_of (joined (lists_of b))) (values_of (joined (lists_of b))) (decisions_of (joined (lists_of b)))
  unfolding format_reply width_reply count_reply
  readable =
      let g = gathered b f rises (count_in b) 0 (omega arith) in
      let l : Laid (lists_of b) g.ids g.ns g.cs g.vs g.ds = collected-from b f rises 0 1 g.ids g.ns g.cs g.vs g.ds g.lists refl g.all in
      record {
        format = sym (then_next _ _ f);
        width = sym (then_next _ _ f);
        count = ap (λ (k : ℕ). Gives (k ∷ [])) (length-names (lists_of b) ∙ length-lists_of b) ∙ sym (then_next _ _ f);
        lists = rw (l.names, l.counts, l.cares, l.values, l.decisions) at g.lists;
      }

-- what the calls tell of a whole image
module _ (b : List ℕ) (f w : ℕ) (ids ns cs vs ds : List ℕ) (R : ReadWhole b f w ids ns cs vs ds) where
  -- the image is accepted
  pub whole-passes : image_check b ≡ passed
  unfolding format_reply
  whole-passes = bare-first (image_check b) _ (bare-image b) (f ∷ []) (sym R.format)

  -- the format, the width and the number of ids are the image's
  pub whole-head : (f ≡ format_in b) × (w ≡ width_in b) × (length ids ≡ count_in b)
  unfolding format_reply width_reply count_reply
  whole-head = (
    one_value (R.format ∙ then_next _ _ whole-passes),
    one_value (R.width ∙ then_next _ _ whole-passes),
    one_value (R.count ∙ then_next _ _ whole-passes),
  )

  -- ids, counts and slices hold its lists
  pub whole-lists : Rising 0 (lists_of b) → Laid (lists_of b) ids ns cs vs ds
  whole-lists up = collected-from b whole-passes up 0 1 ids ns cs vs ds R.lists refl (omega (arith, whole-head.2))
