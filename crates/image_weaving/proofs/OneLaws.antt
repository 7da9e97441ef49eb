-- One list of an image, squeezed into slices that have room for it.
use mathlib.Core.Path.{◌≡◌, refl, sym, ap, ◌∙◌, subst}
use mathlib.Core.List.{List, [], ◌∷◌, ◌++◌}
use Prim.Native.Nat.{ℕ, ◌*◌}
use native.Mathlib.Omega.{arith}
use borrow.Author.Tests.{eq-eqb}
use lib.ListN.{length, take}
use lib.Seq.{length-take-le, take-append-le}
use Rattle.rules.specs.declared.Refusal.{Refusal}
use Rattle.rules.specs.Rule.{Rule}
use Rattle.rules.specs.Slices.{rules_of, care_of, value_of, decision_of, cares_of, values_of, decisions_of, padded}
use Rattle.rules.specs.Replies.{Reply, Gives, passed, refusal_reply, reply, unless_refused}
use Rattle.rules.proofs.ReplyLaws.{then_next, stop-up, need-yes, gives-refuses, two-values}
use Rattle.rules.proofs.PaddedLaws.{cares-front, values-front, decisions-front}
use Rattle.rules.proofs.CheckLaws.{list-sound, sound-list, lengths-yes, room-yes}
use Rattle.std.specs.Prelude.{Result, Ok, Err, IsOk, IsErrAnd}
use Rattle.weaving.specs.declared.Tally.{Tally}
use Rattle.weaving.specs.Calls.{tally_values, woven_reply, weave_reply, WeaveDone}
use Rattle.pruning.specs.declared.Tally.{Tally as PruneTally}
use Rattle.pruning.specs.Prune.{dropped}
use Rattle.pruning.specs.Calls.{tally_values as pruned_values, pruned_reply, headers_check, results_check, prune_reply, PruneDone}
use Rattle.image_form.specs.Images.{width_in}
use Rattle.image.specs.Places.{list_with}
use Rattle.image.specs.Calls.{id_check}
use Rattle.image.proofs.PassedLaws.{length-with, list-facts}
use Rattle.image.proofs.ReadLaws.{id-image, take-room, Held, held-decisions, held-rules, held-passes}
use Rattle.image_writer.proofs.CarryLaws.{length-column, length-words}
use Rattle.image_weaving.specs.declared.Squeeze.{Squeeze}
use Rattle.image_weaving.specs.Squeezing.{squeezed}
use Rattle.image_weaving.specs.Parts.{HoldsRules, squeeze_counts, Ready, RulesSqueezed, RoomFor, ListSqueezed}

-- what gives something is not refused
pub given-ok : {A : Type 0} (values : A → List ℕ) (r : Result A Refusal) {ns : List ℕ} → reply values r ≡ Gives ns → IsOk r
given-ok values (Ok x) e = refl
given-ok values (Err x) e = absurd (gives-refuses (sym e))

-- ---- what a call leaves in its result slices

-- a call that is not refused, and left the columns of a list in three slices: their first places hold the list
module _ (rs : List Rule) (a : Reply) (ns : List ℕ) (given : a ≡ Gives ns) where
  left-holds : (m k n : ℕ) (oc ov od oc' ov' od' : List ℕ) → oc' ≡ unless_refused a (padded m (cares_of rs) oc) oc
      → ov' ≡ unless_refused a (padded k (values_of rs) ov) ov → od' ≡ unless_refused a (padded n (decisions_of rs) od) od → HoldsRules rs oc' ov' od'
  left-holds m k n oc ov od oc' ov' od' c v d =
      record {
        cares = cares-front a ns given rs (length rs) refl m k n oc ov od oc' ov' od' c v d;
        values = values-front a ns given rs (length rs) refl m k n oc ov od oc' ov' od' c v d;
        decisions = decisions-front a ns given rs (length rs) refl m k n oc ov od oc' ov' od' c v d;
      }

-- slices that go on hold it as well
longer-holds : (rs : List Rule) (c v d x y z : List ℕ) → HoldsRules rs c v d → HoldsRules rs (c ++ x) (v ++ y) (d ++ z)
longer-holds rs c v d x y z h =
    record {
      cares = longer c x h.cares (length-words care_of rs);
      values = longer v y h.values (length-words value_of rs);
      decisions = longer d z h.decisions (length-column decision_of rs);
    }
  where
    longer : {k : ℕ} {l : List ℕ} (c x : List ℕ) → take k c ≡ l → length l ≡ k → take k (c ++ x) ≡ l
    longer {k} c x e f = take-append-le k c x (take-room k c (sym (ap length e ∙ f))) ∙ e

-- ---- a list that passes its checks, squeezed into slices with room for it

module _ (w : ℕ) (cs vs ds oc ov od : List ℕ) (R : Ready w cs vs ds oc ov od) where
  -- woven
  module _ (oc' ov' od' : List ℕ) (r : Result Tally Refusal) (D : WeaveDone w cs vs ds oc ov od oc' ov' od' r) where
    weave-given : weave_reply w cs vs ds oc ov od ≡ squeeze_counts Squeeze.Weave w (rules_of cs vs ds)
    unfolding weave_reply
    weave-given =
        then_next _ _ (sound-list w 1 cs vs ds R.sound)
        ∙ then_next _ _ (lengths-yes oc ov od (sym R.lent.values) (sym R.lent.decisions)) ∙ then_next _ _ (room-yes _ _ R.room)

    -- it is not refused
    pub weave-answers : IsOk r
    weave-answers = given-ok tally_values r (D.reply ∙ weave-given)

    pub rules-woven : (t : Tally) → r ≡ Ok t → RulesSqueezed Squeeze.Weave w (rules_of cs vs ds) t oc' ov' od'
    rules-woven t q =
        record {
          counts = sym (ap woven_reply q) ∙ D.reply ∙ weave-given;
          held = left-holds _ _ _ weave-given (length cs) (length vs) (length ds) oc ov od oc' ov' od' D.cares D.values D.decisions;
        }

  -- pruned, into as many places as it has rules
  module _ (hs oc' ov' od' hs' : List ℕ) (p : Result PruneTally Refusal)
      (D : PruneDone w cs vs ds (take (length ds * 2) oc) (take (length ds * 2) ov) (take (length ds) od) hs oc' ov' od' hs' p)
      (headers : length hs ≡ length ds * 2) where
    abbrev tc : List ℕ
    tc = take (length ds * 2) oc

    abbrev tv : List ℕ
    tv = take (length ds * 2) ov

    abbrev td : List ℕ
    td = take (length ds) od

    prune-given : prune_reply w cs vs ds tc tv td hs ≡ Gives (length (squeezed Squeeze.Prune w (rules_of cs vs ds)) ∷ dropped w (rules_of cs vs ds) ∷ [])
    unfolding prune_reply results_check headers_check
    prune-given =
        let c : length tc ≡ length ds * 2 = length-take-le (length ds * 2) oc (omega (arith, R.lent.decisions, R.room)) in
        let v : length tv ≡ length ds * 2 = length-take-le (length ds * 2) ov (omega (arith, R.lent.values, R.lent.decisions, R.room)) in
        let d : length td ≡ length ds = length-take-le (length ds) od R.room in
        let twice : length ds * 2 ≡ length td * 2 = ap (λ (n : ℕ). n * 2) (sym d) in
        then_next _ _ (sound-list w 1 cs vs ds R.sound)
        ∙ then_next _ _
        (then_next _ _ (lengths-yes tc tv td (c ∙ sym v) (c ∙ twice))
        ∙ then_next _ _ (need-yes _ 2 0 0 (eq-eqb _ _ (headers ∙ twice))) ∙ room-yes _ _ (omega (arith, d)))

    prune-holds : HoldsRules (squeezed Squeeze.Prune w (rules_of cs vs ds)) oc' ov' od'
    prune-holds = left-holds _ _ _ prune-given (length cs) (length vs) (length ds) tc tv td oc' ov' od' D.cares D.values D.decisions

    -- it is not refused
    pub prune-answers : IsOk p
    prune-answers = given-ok pruned_values p (D.reply ∙ prune-given)

    -- its counts, and no merges; what stands behind those places is anything
    pub rules-pruned : (x y z : List ℕ) (t : PruneTally) → p ≡ Ok t
        → RulesSqueezed Squeeze.Prune w (rules_of cs vs ds) (record { kept = t.kept; dropped = t.dropped; merged = 0 }) (oc' ++ x) (ov' ++ y) (od' ++ z)
    rules-pruned x y z t q =
        let v = two-values (sym (ap pruned_reply q) ∙ D.reply ∙ prune-given) in
        record { counts = (λ j. Gives (v.0 j ∷ v.1 j ∷ 0 ∷ [])); held = longer-holds _ oc' ov' od' x y z prune-holds }

-- ---- the list with an id

-- it cannot be read
pub list-refused : (z : Squeeze) (b : List ℕ) (id : ℕ) (r : Result Tally Refusal) (x : Refusal) (oc ov od : List ℕ) → IsErrAnd r (λ y. y ≡ x) → id_check b id ≡ refusal_reply x
    → ListSqueezed z b id r oc ov od
list-refused z b id r x oc ov od up e =
    record { reply = stop-up tally_values r _ _ x up (sym e); held = λ t f. absurd (subst (λ (y : Result Tally Refusal). IsErrAnd y (λ y. y ≡ x)) f up) }

-- it was read
module _ (b : List ℕ) (id n : ℕ) (c v d : List ℕ) (p : id_check b id ≡ passed) (h : Held n (list_with b id) c v d) (w : ℕ) (e : w ≡ width_in b) where
  -- there is room for it
  pub list-ready : (oc ov od : List ℕ) → RoomFor b id oc ov od → Ready w (take (n * 2) c) (take (n * 2) v) (take n d) oc ov od
  list-ready oc ov od m =
      let f = id-image b id p in
      rw e
      (record {
        sound = list-sound (width_in b) 1 _ _ _ (held-passes b id 1 n c v d f h);
        lent = m.lent;
        room = omega (arith, held-decisions n (list_with b id) c v d h, h.size, m.room f);
      })

  -- and squeezed
  pub list-squeezed : (z : Squeeze) (oc' ov' od' : List ℕ) (t : Tally)
      → RulesSqueezed z w (rules_of (take (n * 2) c) (take (n * 2) v) (take n d)) t oc' ov' od' → ListSqueezed z b id (Ok t) oc' ov' od'
  list-squeezed z oc' ov' od' t S =
      let T : RulesSqueezed z (width_in b) (list_with b id) t oc' ov' od' = rw (e, held-rules n (list_with b id) c v d h) at S in
      record { reply = T.counts ∙ sym (then_next _ _ p); held = λ u g. T.held }

-- slices of 1,024 places, two numbers to each of the first two, have room for any list
pub room-for-any : (b : List ℕ) (id : ℕ) (c v d : List ℕ) → length c ≡ 2048 → length v ≡ 2048 → length d ≡ 1024 → RoomFor b id c v d
room-for-any b id c v d p q s =
    record {
      lent = record { values = q ∙ sym p; decisions = omega arith };
      room = λ f. omega (arith, length-with b id, (list-facts b id f).few);
    }
