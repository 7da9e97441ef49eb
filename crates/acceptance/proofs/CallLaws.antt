-- What the checks of a candidate say once they are passed, and what the call answers by them.
use Prim.Native.Nat.{ℕ, ◌≤◌, ◌<◌}
use mathlib.Core.Path.{◌≡◌, sym, ap, ◌∙◌}
use mathlib.Core.List.{List, []}
use borrow.Author.Tests.{lt-leb, le-leb}
use Rattle.rules.specs.declared.Refusal.{Refusal}
use Rattle.std.specs.Prelude.{Result, Ok, Err, IsErrAnd}
use Rattle.rules.specs.Rules.{answer}
use Rattle.rules.specs.Slices.{rules_of}
use Rattle.rules.specs.Replies.{Refuses, passed, refusal_reply}
use Rattle.rules.specs.Checks.{Sound}
use Rattle.rules.specs.Calls.{check_list}
use Rattle.rules.proofs.ReplyLaws.{then_next, then-stop, then-second, need-yes, need-no, same-refused, same-given}
use Rattle.rules.proofs.CheckLaws.{list-sound, list-first}
use Rattle.acceptance.specs.declared.Rejection.{Rejection}
use Rattle.acceptance.specs.Rejections.{refused_as, refusal_of, beside_values}
use Rattle.acceptance.specs.Accepting.{longer_check, candidate_check, lowest_unlike, accept_reply, beside, AcceptDone}
use Rattle.acceptance.specs.Inner.{Judged}

pub longer-no : (n m : ℕ) → n < m → longer_check n m ≡ Refuses 27 0 0
unfolding longer_check
longer-no n m l = need-no _ 27 0 0 (lt-leb m n l)

pub longer-yes : (n m : ℕ) → m ≤ n → longer_check n m ≡ passed
unfolding longer_check
longer-yes n m l = need-yes _ 27 0 0 (le-leb m n l)

module _ (w : ℕ) (sc sv sd cc cv cd : List ℕ) where
  -- a candidate that passed the checks
  pub both-sound : candidate_check w sc sv sd cc cv cd ≡ passed → Sound w sc sv sd × Sound w cc cv cd
  unfolding candidate_check
  both-sound e =
      (list-sound w 1 sc sv sd (list-first w 1 sc sv sd _ e), list-sound w 2 cc cv cd (list-first w 2 cc cv cd _ (then-second (check_list w 1 sc sv sd) _ _ e)))

  -- ---- the call

  -- a refusal of the checks is passed up as a rejection
  pub accept-refused : (r : Result (Unit {0}) Rejection) (x : Refusal) → IsErrAnd r (λ y. y ≡ refused_as x) → refusal_reply x ≡ candidate_check w sc sv sd cc cv cd
      → AcceptDone w sc sv sd cc cv cd r
  unfolding accept_reply beside
  accept-refused (Ok y) x e p = absurd e
  accept-refused (Err y) x e p = record {
    reply = ap (λ (z : Rejection). refusal_reply (refusal_of z)) e ∙ sym (then-stop _ _ x (sym p));
    told = ap (λ (z : Rejection). beside_values (Err z)) e ∙ same-refused _ x _ [] (sym p);
  }

  -- and without one the lists are held to each other
  pub accept-judged : (r : Result (Unit {0}) Rejection) → passed ≡ candidate_check w sc sv sd cc cv cd
      → Judged w (answer (rules_of sc sv sd)) (answer (rules_of cc cv cd)) r → AcceptDone w sc sv sd cc cv cd r
  unfolding accept_reply beside lowest_unlike
  accept-judged r p J = record {
    reply = J.reply ∙ sym (then_next _ _ (sym p));
    told = J.told ∙ same-given _ _ _ [] (sym p);
  }
