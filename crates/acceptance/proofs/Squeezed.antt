-- Our own squeezed lists are always accepted for their source, and so is what is accepted for an accepted list: read off the promises of
-- the calls.
use Prim.Native.Nat.{ℕ}
use mathlib.Core.Path.{◌≡◌, refl, sym, ◌∙◌}
use mathlib.Core.List.{List}
use native.Mathlib.Omega.{arith}
use lib.ListN.{length-take}
use Rattle.std.specs.Prelude.{Result, Ok}
use Rattle.rules.specs.Replies.{passed}
use Rattle.rules.specs.Calls.{check_list}
use Rattle.rules.proofs.CheckLaws.{list-first}
use Rattle.weaving.specs.declared.Tally.{Tally as WovenTally}
use Rattle.weaving.specs.Calls.{weave_reply, WeaveDone}
use Rattle.weaving.proofs.Demands.{woven-shorter, woven-passes, woven-lookup, kept_words as woven_words, kept_decisions as woven_decisions}
use Rattle.pruning.specs.declared.Tally.{Tally as PrunedTally}
use Rattle.pruning.specs.Calls.{prune_reply, PruneDone}
use Rattle.pruning.proofs.Demands.{pruned-shorter, pruned-passes, pruned-lookup, kept_words as pruned_words, kept_decisions as pruned_decisions}
use Rattle.acceptance.specs.declared.Rejection.{Rejection}
use Rattle.acceptance.specs.Accepting.{AcceptDone}
use Rattle.acceptance.proofs.Demands.{accepted-exactly, lookups-accepted}

-- What `weave` leaves in the places that it says it kept is accepted for the list that was lent to it.
pub woven-accepted : (w : ℕ) (cs vs ds ocs ovs ods ocs' ovs' ods' : List ℕ) (t : WovenTally) → WeaveDone w cs vs ds ocs ovs ods ocs' ovs' ods' (Ok t)
    → (r : Result (Unit {0}) Rejection) → AcceptDone w cs vs ds (woven_words t ocs') (woven_words t ovs') (woven_decisions t ods') r → r ≡ Ok tt
unfolding weave_reply
woven-accepted w cs vs ds ocs ovs ods ocs' ovs' ods' t D r A =
    lookups-accepted w cs vs ds _ _ _ r A (list-first w 1 cs vs ds _ (sym D.reply))
    (woven-passes w cs vs ds ocs ovs ods ocs' ovs' ods' t D 1)
    (omega (arith, length-take t.kept ods', woven-shorter w cs vs ds ocs ovs ods ocs' ovs' ods' t D))
    (woven-lookup w cs vs ds ocs ovs ods ocs' ovs' ods' t D)

-- What `prune` leaves in the places that it says it kept is accepted for the list that was lent to it.
pub pruned-accepted : (w : ℕ) (cs vs ds ocs ovs ods hs ocs' ovs' ods' hs' : List ℕ) (t : PrunedTally) → PruneDone w cs vs ds ocs ovs ods hs ocs' ovs' ods' hs' (Ok t)
    → (r : Result (Unit {0}) Rejection) → AcceptDone w cs vs ds (pruned_words t ocs') (pruned_words t ovs') (pruned_decisions t ods') r → r ≡ Ok tt
unfolding prune_reply
pruned-accepted w cs vs ds ocs ovs ods hs ocs' ovs' ods' hs' t D r A =
    lookups-accepted w cs vs ds _ _ _ r A (list-first w 1 cs vs ds _ (sym D.reply))
    (pruned-passes w cs vs ds ocs ovs ods hs ocs' ovs' ods' hs' t D 1)
    (omega (arith, length-take t.kept ods', pruned-shorter w cs vs ds ocs ovs ods hs ocs' ovs' ods' hs' t D))
    (pruned-lookup w cs vs ds ocs ovs ods hs ocs' ovs' ods' hs' t D)

-- A list that is accepted for an accepted candidate is accepted for the source: squeezing may go on from hand to hand, in any order.
pub accepted-onward : (w : ℕ) (sc sv sd cc cv cd ec ev ed : List ℕ) (a b r : Result (Unit {0}) Rejection)
    → AcceptDone w sc sv sd cc cv cd a → a ≡ Ok tt → AcceptDone w cc cv cd ec ev ed b → b ≡ Ok tt
    → AcceptDone w sc sv sd ec ev ed r → r ≡ Ok tt
accepted-onward w sc sv sd cc cv cd ec ev ed a b r A p B q R =
    let x = (accepted-exactly w sc sv sd cc cv cd a A).0 p in
    let y = (accepted-exactly w cc cv cd ec ev ed b B).0 q in
    (accepted-exactly w sc sv sd ec ev ed r R).1 (record {
      source_list = x.source_list;
      candidate_list = y.candidate_list;
      no_longer = omega (arith, x.no_longer, y.no_longer);
      alike = λ h l. x.alike h l ∙ y.alike h l;
    })

-- Every list that passes its checks is accepted for itself.
pub accepted-itself : (w : ℕ) (cs vs ds : List ℕ) (r : Result (Unit {0}) Rejection) → check_list w 1 cs vs ds ≡ passed → AcceptDone w cs vs ds cs vs ds r → r ≡ Ok tt
accepted-itself w cs vs ds r p A = lookups-accepted w cs vs ds cs vs ds r A p p (omega arith) (λ h. refl)
