-- Laws of the call: its checks in their order, and what it leaves.
use Prim.Native.Nat.{ℕ, ◌-◌, ◌*◌, ◌≤◌}
use mathlib.Core.Path.{◌≡◌, sym, ap, ap₂, ◌∙◌, subst}
use mathlib.Core.List.{List, [], ◌∷◌, ◌++◌}
use native.Mathlib.Omega.{arith}
use lib.ListN.{length, drop, take, length-append}
use lib.Seq.{take_at, drop_at}
use lib.Dec.{eqb}
use borrow.Author.Tests.{leb-true}
use Rattle.words.proofs.Tests.{eqb_yes, and-true}
use Rattle.words.proofs.SliceLaws.{Machine}
use Rattle.rules.specs.Rule.{Rule}
use Rattle.rules.specs.Rules.{Valid}
use Rattle.rules.specs.Lists.{All}
use Rattle.rules.specs.Slices.{rules_of, blanks, Lent}
use Rattle.rules.specs.Replies.{Gives, passed, ◌then◌, refusal_reply}
use Rattle.rules.specs.Checks.{lengths_check, room_check, Sound}
use Rattle.rules.specs.Calls.{check_list}
use Rattle.rules.specs.declared.Refusal.{Refusal}
use Rattle.std.specs.Prelude.{Result, Ok, IsErrAnd}
use Rattle.rules.proofs.ReplyLaws.{then_next, then-stop, then-second, need-then, need-passed, passed-up, same-refused, same-given}
use Rattle.rules.proofs.CheckLaws.{list-sound}
use Rattle.rules.proofs.PaddedLaws.{cares-padded, values-padded, decisions-padded}
use Rattle.rules.proofs.SliceLaws.{rules-length}
use Rattle.pruning.specs.declared.Tally.{Tally}
use Rattle.pruning.specs.Prune.{prune, kept, dropped}
use Rattle.pruning.specs.Calls.{headers_check, results_check, tally_values, prune_reply, PruneDone}
use Rattle.pruning.specs.Inner.{Holds, Passing, Copied, Shown, Left}
use Rattle.pruning.proofs.Theorems.{prune-never-longer}
use Rattle.pruning.proofs.AskLaws.{first-rules}
use Rattle.pruning.proofs.PassLaws.{pass-rules}
use Rattle.pruning.proofs.ShowLaws.{headers-padded}

-- ---- the result slices

-- slices that passed are equally long and have room
pub results-ready : (n : ℕ) (cs vs ds hs : List ℕ) → results_check n cs vs ds hs ≡ passed → Lent cs vs ds × (length hs ≡ length ds * 2) × (n ≤ length ds)
unfolding results_check headers_check room_check lengths_check
results-ready n cs vs ds hs e =
    let a = then-second (lengths_check cs vs ds) _ [] e in
    let b = then-second (headers_check hs ds) _ [] a in
    let t = and-true (eqb (length cs) (length vs)) (eqb (length cs) (length ds * 2)) (need-then _ 2 0 0 _ [] e) in
    (record { values = sym (eqb_yes _ _ t.0); decisions = sym (eqb_yes _ _ t.1) }, eqb_yes _ _ (need-then _ 2 0 0 _ [] a), leb-true _ _ (need-passed _ 7 0 0 b))

-- ---- what the whole leaves

module _ (w : ℕ) (cs vs ds : List ℕ) (S : Sound w cs vs ds) (old : List Rule) (cs' vs' ds' : List ℕ) (C : Copied (rules_of cs vs ds) old cs' vs' ds') where
  abbrev rs : List Rule
  rs = rules_of cs vs ds

  many : length rs ≡ length ds
  many = rules-length cs vs ds S.lent

  front : take (length ds) (rules_of cs' vs' ds') ≡ rs
  front = ap (take (length ds)) C.rules ∙ take_at rs (drop (length rs) old) (length ds) many

  back : drop (length ds) (rules_of cs' vs' ds') ≡ drop (length rs) old
  back = ap (drop (length ds)) C.rules ∙ drop_at rs (drop (length rs) old) (length ds) many

  long : length ds ≤ length (rules_of cs' vs' ds')
  long = omega (arith, ap length C.rules, length-append rs (drop (length rs) old), many)

  -- the list that was copied passes a list's checks
  pub copied-holds : Holds w cs' vs' ds' (length ds)
  copied-holds = record {
    width = S.width;
    lent = C.lent;
    inside = omega (arith, long, rules-length cs' vs' ds' C.lent);
    few = S.few;
    valid = subst (All (Valid w)) (sym front) S.valid;
  }

  module _ (cs'' vs'' ds'' : List ℕ) (left : ℕ) (P : Passing w (rules_of cs' vs' ds') (length ds) (length ds) cs'' vs'' ds'' left 0) where
    kept-is : take left (rules_of cs'' vs'' ds'') ≡ prune w rs
    kept-is = (pass-rules w (rules_of cs' vs' ds') (length ds) cs'' vs'' ds'' left long P).0 ∙ ap (prune w) front

    left_is : left ≡ length (prune w rs)
    left_is = sym (first-rules w cs'' vs'' ds'' left P.holds) ∙ ap length kept-is

    pub left-all : (hs hs' : List ℕ) → Shown w (take left (rules_of cs'' vs'' ds'')) (length ds) hs hs' → (t : Tally) → t.kept ≡ left → t.dropped ≡ length ds - left
        → Left w rs old hs (rules_of cs'' vs'' ds'') hs' t
    left-all hs hs' H t e d = record {
      rules =
          (pass-rules w (rules_of cs' vs' ds') (length ds) cs'' vs'' ds'' left long P).1
          ∙ ap₂ (λ (x y : List Rule). prune w x ++ (blanks (length ds - left) ++ y)) front back
          ∙ ap (λ (n : ℕ). prune w rs ++ (blanks n ++ drop (length rs) old)) (ap₂ ◌-◌ (sym many) left_is);
      headers = subst (λ (x : List Rule). Shown w x (length rs) hs hs') kept-is (subst (λ (n : ℕ). Shown w (take left (rules_of cs'' vs'' ds'')) n hs hs') (sym many) H);
      entries = e ∙ left_is;
      gone = d ∙ ap₂ ◌-◌ (sym many) left_is;
    }

-- ---- the call

module _ (w : ℕ) (cs vs ds ocs ovs ods hs : List ℕ) where
  -- a refusal that is passed up leaves the slices as they were
  pub prune-refused : (r : Result Tally Refusal) (x : Refusal) → IsErrAnd r (λ y. y ≡ x) → prune_reply w cs vs ds ocs ovs ods hs ≡ refusal_reply x
      → PruneDone w cs vs ds ocs ovs ods hs ocs ovs ods hs r
  prune-refused r x e p = record {
    reply = passed-up tally_values r x e ∙ sym p;
    cares = same-refused _ x _ ocs p;
    values = same-refused _ x _ ovs p;
    decisions = same-refused _ x _ ods p;
    headers = same-refused _ x _ hs p;
  }

  module _ (fine : passed ≡ check_list w 1 cs vs ds) where
    prune-rest : prune_reply w cs vs ds ocs ovs ods hs ≡ (results_check (length ds) ocs ovs ods hs then Gives (kept w (rules_of cs vs ds) ∷ dropped w (rules_of cs vs ds) ∷ []))
    unfolding prune_reply
    prune-rest = then_next _ _ (sym fine)

    -- the result slices' refusal
    pub prune-results : (x : Refusal) → refusal_reply x ≡ results_check (length ds) ocs ovs ods hs → prune_reply w cs vs ds ocs ovs ods hs ≡ refusal_reply x
    prune-results x e = prune-rest ∙ then-stop _ _ x (sym e)

    module _ (room : passed ≡ results_check (length ds) ocs ovs ods hs) where
      sound : Sound w cs vs ds
      sound = list-sound w 1 cs vs ds (sym fine)

      results : Lent ocs ovs ods × (length hs ≡ length ods * 2) × (length ds ≤ length ods)
      results = results-ready (length ds) ocs ovs ods hs (sym room)

      pub prune-ready : Sound w cs vs ds × Lent ocs ovs ods × (length ds ≤ length ods) × (length hs ≡ length ods * 2)
      prune-ready = (sound, results.0, results.2, results.1)

      prune-all : prune_reply w cs vs ds ocs ovs ods hs ≡ Gives (kept w (rules_of cs vs ds) ∷ dropped w (rules_of cs vs ds) ∷ [])
      prune-all = prune-rest ∙ then_next _ _ (sym room)

      -- the pruned list
      pub prune-given : (ocs' ovs' ods' hs' : List ℕ) (t : Tally) → Lent ocs' ovs' ods' → Machine ocs → Machine ovs → Machine hs → Machine ocs' → Machine ovs' → Machine hs'
          → Left w (rules_of cs vs ds) (rules_of ocs ovs ods) hs (rules_of ocs' ovs' ods') hs' t
          → PruneDone w cs vs ds ocs ovs ods hs ocs' ovs' ods' hs' (Ok t)
      prune-given ocs' ovs' ods' hs' t l mc mv mh mc' mv' mh' L =
          record {
            reply = ap₂ (λ (a b : ℕ). Gives (a ∷ b ∷ [])) L.entries L.gone ∙ sym prune-all;
            cares = cares-padded (length ds) pruned ocs ovs ods ocs' ovs' ods' results.0 l laid (length cs) (sym sound.lent.decisions) mc mc' ∙ same-given _ _ _ ocs prune-all;
            values = values-padded (length ds) pruned ocs ovs ods ocs' ovs' ods' results.0 l laid (length vs) (sound.lent.values ∙ sym sound.lent.decisions) mv mv' ∙ same-given _ _ _ ovs prune-all;
            decisions = decisions-padded (length ds) pruned ocs ovs ods ocs' ovs' ods' results.0 l laid ∙ same-given _ _ _ ods prune-all;
            headers = headers-padded w pruned (length ds) hs hs' (omega (arith, prune-never-longer w (rules_of cs vs ds), long-list)) (length ods) results.1 (subst (λ (n : ℕ). Shown w pruned n hs hs') long-list L.headers) mh mh' ∙ same-given _ _ _ hs prune-all;
          }
        where
          pruned : List Rule
          pruned = prune w (rules_of cs vs ds)

          long-list : length (rules_of cs vs ds) ≡ length ds
          long-list = rules-length cs vs ds sound.lent

          laid : rules_of ocs' ovs' ods' ≡ pruned ++ (blanks (length ds - length pruned) ++ drop (length ds) (rules_of ocs ovs ods))
          laid = L.rules ∙ ap (λ (n : ℕ). pruned ++ (blanks (n - length pruned) ++ drop n (rules_of ocs ovs ods))) long-list
