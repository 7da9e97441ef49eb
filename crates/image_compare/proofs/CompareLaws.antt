-- What comparing lists of two images comes to, as the code's tests come to it.
use mathlib.Core.Path.{◌≡◌, refl, sym, ap, ◌∙◌, subst, subst⁻¹, subst₂}
use mathlib.Core.Logic.{◌↔◌}
use mathlib.Core.List.{List}
use Prim.Native.Nat.{ℕ}
use lib.Dec.{eqb}
use lib.ListN.{length}
use Rattle.words.proofs.Tests.{eqb_yes}
use Rattle.std.specs.Prelude.{Option, None, Result, Ok, Err, IsErrAnd}
use Rattle.rules.specs.declared.Refusal.{Refusal}
use Rattle.rules.specs.Replies.{Reply, Gives, Refuses, passed, need, ◌then◌, refusal_reply}
use Rattle.rules.specs.declared.RuleList.{RuleList}
use Rattle.rules.specs.Calls.{check_in}
use Rattle.rules.proofs.ReplyLaws.{then_next, then-stop, then-second, need-passed, bare-first}
use Rattle.compare_check.specs.Outcomes.{outcome}
use Rattle.compare_check.specs.Checks.{portion_check, default_check}
use Rattle.compare_check.proofs.OrderLaws.{lists-passed}
use Rattle.compare.specs.declared.Compared.{Compared}
use Rattle.compare.specs.Runs.{Run, differences}
use Rattle.compare.specs.Calls.{PortionDone, OutcomesComparedIn}
use Rattle.compare.proofs.DoneLaws.{stopped}
use Rattle.image_form.specs.Parts.{entry_from}
use Rattle.image_form.specs.Images.{width_in}
use Rattle.image_check.specs.Checks.{image_check}
use Rattle.image.specs.Places.{list_with}
use Rattle.image.specs.Calls.{id_check}
use Rattle.image_check.proofs.BareLaws.{bare-image}
use Rattle.image_compare.specs.Comparing.{first_rules, compare_lists_check, compare_first_check, ListsCompared, FirstCompared, list_outcomes_check, first_outcomes_check, ListOutcomesCompared, FirstOutcomesCompared}
use Rattle.image_compare.specs.Parts.{ListRead, Read}
use Rattle.image_compare.proofs.FirstLaws.{first-list, first-told, first-check}

-- ---- what a call leaves

done-same : {check check' : Reply} {rs rs' : List Run} (first last old new first' last' old' new' : List ℕ) (r : Result Compared Refusal) → check ≡ check' → rs ≡ rs'
    → PortionDone check rs first last old new first' last' old' new' r → PortionDone check' rs' first last old new first' last' old' new' r
done-same first last old new first' last' old' new' r p q o =
    subst₂ (λ (k : Reply) (l : List Run). PortionDone k l first last old new first' last' old' new' r) p q o

-- the runs matter where the checks are passed
done-runs : (check : Reply) (rs rs' : List Run) (first last old new first' last' old' new' : List ℕ) (r : Result Compared Refusal)
    → ((ns : List ℕ) → check ≡ Gives ns → rs ≡ rs') → PortionDone check rs first last old new first' last' old' new' r
    → PortionDone check rs' first last old new first' last' old' new' r
done-runs (Gives ns) rs rs' first last old new first' last' old' new' r f o =
    done-same first last old new first' last' old' new' r refl (f ns refl) o
done-runs (Refuses n l i) rs rs' first last old new first' last' old' new' r f o =
    record { reply = o.reply; count = o.count; firsts = o.firsts; lasts = o.lasts; olds = o.olds; news = o.news }

-- ---- a list that is read out

-- a refusal that is passed up
pub up-refused : (b : List ℕ) (id : ℕ) (r : Result RuleList Refusal) (x : Refusal) → IsErrAnd r (λ y. y ≡ x) → id_check b id ≡ refusal_reply x → Read b id r
up-refused b id (Ok a) x e p = absurd e
up-refused b id (Err y) x e p = p ∙ ap refusal_reply (sym e)

-- ---- two lists by their ids

module _ (old : List ℕ) (i : ℕ) (old_default : Option ℕ) (new : List ℕ) (j : ℕ) (new_default : Option ℕ) (start : ℕ) (first last olds news : List ℕ) where
  -- a refusal that is passed up: of the old list, of the new one, and 16
  module _ (r : Result Compared Refusal) (x : Refusal) (up : IsErrAnd r (λ y. y ≡ x)) where
    pub old-refused : id_check old i ≡ refusal_reply x → ListOutcomesCompared old i old_default new j new_default start first last olds news first last olds news r
    unfolding list_outcomes_check
    old-refused p = stopped _ x _ first last olds news r up (sym (then-stop _ _ x p))

    pub new-refused : id_check old i ≡ passed → id_check new j ≡ refusal_reply x
        → ListOutcomesCompared old i old_default new j new_default start first last olds news first last olds news r
    unfolding list_outcomes_check
    new-refused e p = stopped _ x _ first last olds news r up (sym (then_next _ _ e ∙ then-stop _ _ x p))

    pub widths-refused : id_check old i ≡ passed → id_check new j ≡ passed → refusal_reply x ≡ need (eqb (width_in old) (width_in new)) 16 0 0
        → ListOutcomesCompared old i old_default new j new_default start first last olds news first last olds news r
    unfolding list_outcomes_check
    widths-refused e f p = stopped _ x _ first last olds news r up (sym (then_next _ _ e ∙ then_next _ _ f ∙ then-stop _ _ x (sym p)))

  -- two lists of one width that were read out are compared
  pub lists-compared : (a b : RuleList) (k : ℕ) (first' last' olds' news' : List ℕ) (r : Result Compared Refusal) → ListRead old i a → ListRead new j b
      → passed ≡ need (eqb (width_in old) (width_in new)) 16 0 0 → k ≡ width_in old
      → OutcomesComparedIn k a old_default b new_default start first last olds news first' last' olds' news' r
      → ListOutcomesCompared old i old_default new j new_default start first last olds news first' last' olds' news' r
  unfolding list_outcomes_check
  lists-compared a b k first' last' olds' news' r s t w z o =
      let same : width_in old ≡ width_in new = eqb_yes _ _ (need-passed _ 16 0 0 (sym w)) in
      done-same first last olds news first' last' olds' news' r
      (lists-passed (width_in old) _ _ _ old_default _ _ _ new_default start (length first) (length last) (length olds) (length news) (s.fine 1)
      (subst⁻¹ (λ (u : ℕ). check_in u 2 b ≡ passed) same (t.fine 2))
      ∙ sym (then_next _ _ s.checked ∙ then_next _ _ t.checked ∙ then_next _ _ (sym w)))
      (λ m. differences (width_in old) (outcome old_default (s.rules m)) (outcome new_default (t.rules m)) start)
      (subst (λ (u : ℕ). OutcomesComparedIn u a old_default b new_default start first last olds news first' last' olds' news' r) z o)

-- Comparing two lists is comparing their outcomes with no default on both sides.
pub lists-without : (old : List ℕ) (i : ℕ) (new : List ℕ) (j start : ℕ) (first last olds news first' last' olds' news' : List ℕ) (r : Result Compared Refusal)
    → ListsCompared old i new j start first last olds news first' last' olds' news' r
    ↔ ListOutcomesCompared old i None new j None start first last olds news first' last' olds' news' r
unfolding compare_lists_check list_outcomes_check default_check
lists-without old i new j start first last olds news first' last' olds' news' r = ((λ o. o), (λ o. o))

-- ---- the first lists

module _ (old : List ℕ) (old_default : Option ℕ) (new : List ℕ) (new_default : Option ℕ) (start a b c d : ℕ) where
  same-checks : (i j : ℕ) → id_check old i ≡ image_check old → id_check new j ≡ image_check new
      → list_outcomes_check old i old_default new j new_default start a b c d ≡ first_outcomes_check old old_default new new_default start a b c d
  unfolding list_outcomes_check first_outcomes_check
  same-checks i j p q =
      λ m.
      p m
      then q m
      then need (eqb (width_in old) (width_in new)) 16 0 0
      then default_check 1 old_default
      then default_check 2 new_default
      then portion_check (width_in old) start a b c d

  module _ (ns : List ℕ) (f : first_outcomes_check old old_default new new_default start a b c d ≡ Gives ns) where
    old-passed : image_check old ≡ passed
    unfolding first_outcomes_check
    old-passed = bare-first (image_check old) _ (bare-image old) ns f

    new-passed : image_check new ≡ passed
    unfolding first_outcomes_check
    new-passed = bare-first (image_check new) _ (bare-image new) ns (then-second (image_check old) _ ns f)

-- comparing by the first lists' ids compares the first lists
pub first-compared : (old : List ℕ) (i : ℕ) (old_default : Option ℕ) (new : List ℕ) (j : ℕ) (new_default : Option ℕ) (start : ℕ)
    (first last olds news first' last' olds' news' : List ℕ) (r : Result Compared Refusal)
    → i ≡ (entry_from 4 old).id → j ≡ (entry_from 4 new).id
    → ListOutcomesCompared old i old_default new j new_default start first last olds news first' last' olds' news' r
    → FirstOutcomesCompared old old_default new new_default start first last olds news first' last' olds' news' r
first-compared old i old_default new j new_default start first last olds news first' last' olds' news' r p q o =
    done-runs (first_outcomes_check old old_default new new_default start (length first) (length last) (length olds) (length news)) _ _
    first last olds news first' last' olds' news' r
    (λ ns f. let a : image_check old ≡ passed = old-passed old old_default new new_default start _ _ _ _ ns f in
    let b : image_check new ≡ passed = new-passed old old_default new new_default start _ _ _ _ ns f in
    let k : list_with old i ≡ first_rules old = ap (list_with old) (first-told old i p a) ∙ first-list old a in
    let l : list_with new j ≡ first_rules new = ap (list_with new) (first-told new j q b) ∙ first-list new b in
    λ m. differences (width_in old) (outcome old_default (k m)) (outcome new_default (l m)) start)
    (done-same first last olds news first' last' olds' news' r
    (same-checks old old_default new new_default start (length first) (length last) (length olds) (length news) i j (first-check old i p) (first-check new j q)) refl o)

-- Comparing the first lists is comparing their outcomes with no default on both sides.
pub first-without : (old new : List ℕ) (start : ℕ) (first last olds news first' last' olds' news' : List ℕ) (r : Result Compared Refusal)
    → FirstCompared old new start first last olds news first' last' olds' news' r
    ↔ FirstOutcomesCompared old None new None start first last olds news first' last' olds' news' r
unfolding compare_first_check first_outcomes_check default_check
first-without old new start first last olds news first' last' olds' news' r = ((λ o. o), (λ o. o))
