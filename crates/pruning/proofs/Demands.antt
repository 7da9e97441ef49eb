-- What the call `prune` owes its user (request 12), read off its own promise: the list that it leaves, how long that is, that it passes a
-- list's checks, how it answers, and beside each rule the lowest header that needs it; that a second call drops nothing more; and that a
-- refused call leaves every slice as it was.
use mathlib.Core.Path.{◌≡◌, refl, sym, ap, ◌∙◌, subst}
use mathlib.Core.List.{List, [], ◌∷◌}
use Prim.Native.Nat.{ℕ, ◌+◌, ◌*◌, ◌≤◌, ◌<◌}
use native.Mathlib.Omega.{arith}
use lib.ListN.{length, take, get_or}
use lib.Seq.{get_or-take}
use Rattle.words.specs.Slices.{words_of, halves_of}
use Rattle.words.proofs.SliceLaws.{halves-length, words-halves, words_take}
use Rattle.rules.specs.Rule.{Rule}
use Rattle.rules.specs.declared.Refusal.{Refusal}
use Rattle.rules.specs.Slices.{rules_of, rule_at, Lent}
use Rattle.rules.specs.Found.{Hits}
use Rattle.rules.specs.Replies.{Gives, passed}
use Rattle.rules.specs.Checks.{Sound}
use Rattle.rules.specs.Calls.{check_list, looked_up, decided}
use Rattle.rules.proofs.ReplyLaws.{then-second, two-values}
use Rattle.rules.proofs.SliceLaws.{rules-length}
use Rattle.rules.proofs.PaddedLaws.{given-front, front-together, front-rules}
use Rattle.rules.proofs.CheckLaws.{list-sound, list-first}
use Rattle.rules.proofs.AnswerLaws.{hit-exactly}
use Rattle.compare.specs.Needed.{LowestChange}
use Rattle.compare.proofs.NeededLaws.{change-first}
use Rattle.std.specs.Prelude.{Ok, Err}
use Rattle.pruning.specs.declared.Tally.{Tally}
use Rattle.pruning.specs.Prune.{prune, dropped, needed_headers}
use Rattle.pruning.specs.Calls.{results_check, prune_reply, PruneDone}
use Rattle.pruning.proofs.Theorems.{prune-counts, prune-keeps-some, prune-again, pruned-list-passes, pruned-list-lookup, headers-length, headers-shown}

-- ---- the kept places

-- The entries of the kept rules in a care slice, a value slice or a slice of headers.
abbrev pub kept_words : Tally → List ℕ → List ℕ
kept_words t words = take (t.kept * 2) words

-- The decisions of the kept rules.
abbrev pub kept_decisions : Tally → List ℕ → List ℕ
kept_decisions t decisions = take t.kept decisions

-- ---- pruning

module _ (w : ℕ) (cs vs ds ocs ovs ods hs ocs' ovs' ods' hs' : List ℕ) (t : Tally)
    (D : PruneDone w cs vs ds ocs ovs ods hs ocs' ovs' ods' hs' (Ok t)) where
  abbrev pruned : List Rule
  pruned = prune w (rules_of cs vs ds)

  -- what the call said
  said : prune_reply w cs vs ds ocs ovs ods hs ≡ Gives (t.kept ∷ t.dropped ∷ [])
  said = sym D.reply

  -- the list lent passed its checks
  source_sound : Sound w cs vs ds
  unfolding prune_reply
  source_sound = list-sound w 1 cs vs ds (list-first w 1 cs vs ds _ said)

  source-length : length (rules_of cs vs ds) ≡ length ds
  source-length = rules-length cs vs ds source_sound.lent

  -- the two counts are those of the definitions
  counts : (length pruned ≡ t.kept) × (dropped w (rules_of cs vs ds) ≡ t.dropped)
  unfolding prune_reply
  counts =
      two-values (then-second (results_check (length ds) ocs ovs ods hs) _ _ (then-second (check_list w 1 cs vs ds) _ _ said))

  headers-front : kept_words t hs' ≡ halves_of (needed_headers w pruned)
  headers-front =
      given-front _ _ said (t.kept * 2) _ _ hs hs' D.headers
      (halves-length (needed_headers w pruned) ∙ ap (λ (n : ℕ). n * 2) (headers-length w pruned (length pruned) 0 ∙ counts.0))

  -- the kept places of the three slices of rules belong together
  kept-together : Lent (kept_words t ocs') (kept_words t ovs') (kept_decisions t ods')
  kept-together = front-together _ _ said pruned t.kept counts.0 _ _ _ ocs ovs ods ocs' ovs' ods' D.cares D.values D.decisions

  -- The first places of the result slices, as many as the call says it kept, hold the pruned list, rule for rule.
  pub pruned-places : rules_of (kept_words t ocs') (kept_words t ovs') (kept_decisions t ods') ≡ prune w (rules_of cs vs ds)
  pruned-places = front-rules _ _ said pruned t.kept counts.0 _ _ _ ocs ovs ods ocs' ovs' ods' D.cares D.values D.decisions

  -- The two counts of the answer add up to the number of rules lent.
  pub pruned-counts : t.kept + t.dropped ≡ length ds
  pruned-counts = omega (arith, prune-counts w (rules_of cs vs ds), source-length, counts.0, counts.1)

  -- The pruned list has no more rules than the list lent.
  pub pruned-shorter : t.kept ≤ length ds
  pruned-shorter = omega (arith, pruned-counts)

  -- It has a rule where the list lent has one.
  pub pruned-some : 1 ≤ length ds → 1 ≤ t.kept
  pruned-some h = omega (arith, counts.0, prune-keeps-some w (rules_of cs vs ds) source_sound.valid (omega (arith, source-length)))

  -- The pruned list passes the checks that every call makes of a list lent to it, whichever number the call names it by.
  pub pruned-passes : (l : ℕ) → check_list w l (kept_words t ocs') (kept_words t ovs') (kept_decisions t ods') ≡ passed
  pruned-passes l = pruned-list-passes w l cs vs ds _ _ _ source_sound kept-together pruned-places

  -- Looking a header up in the pruned list decides as in the list lent: the same decision, no match where there is none, and the same
  -- refusal where the header is no header of the width. The rule that is hit has its number in the list that is looked up in.
  pub pruned-lookup : (h : ℕ) → decided (looked_up w (kept_words t ocs') (kept_words t ovs') (kept_decisions t ods') h) ≡ decided (looked_up w cs vs ds h)
  pruned-lookup h = pruned-list-lookup w h cs vs ds _ _ _ source_sound kept-together pruned-places

  -- ---- the header beside each kept rule

  module _ (k : ℕ) (l : k < t.kept) where
    -- the word at place k of the slice of headers
    beside : get_or (words_of hs') k 0 ≡ get_or (needed_headers w pruned) k 0
    beside =
        sym (get_or-take t.kept (words_of hs') k 0 l)
        ∙ ap (λ (ns : List ℕ). get_or ns k 0)
        (sym (words_take hs' t.kept (t.kept * 2) (omega arith)) ∙ ap words_of headers-front ∙ words-halves (needed_headers w pruned))

    -- Beside the kept rule at position k, counted from 0, stands the lowest header of the width whose answer is another one when that rule is
    -- taken from the pruned list (request 12).
    pub pruned-header : LowestChange w (prune w (rules_of cs vs ds)) k (get_or (words_of hs') k 0)
    pruned-header = subst (LowestChange w pruned k) (sym beside) (headers-shown w (rules_of cs vs ds) k (omega (arith, counts.0)))

    -- Looked up in the pruned list it hits that very rule, and gets its decision.
    pub pruned-header-lookup : looked_up w (kept_words t ocs') (kept_words t ovs') (kept_decisions t ods') (get_or (words_of hs') k 0)
        ≡ Gives ((k + 1) ∷ (rule_at (prune w (rules_of cs vs ds)) k).decision ∷ [])
    pruned-header-lookup =
        let h : Hits pruned (get_or (words_of hs') k 0) k = change-first pruned k _ pruned-header.differ in
        (hit-exactly w (kept_words t ocs') (kept_words t ovs') (kept_decisions t ods') _ (pruned-passes 1) pruned-header.below k _).1
        (subst (λ (rs : List Rule). Hits rs (get_or (words_of hs') k 0) k × ((rule_at rs k).decision ≡ (rule_at pruned k).decision)) (sym pruned-places) (h, refl))

-- ---- once is enough

-- A second call, on what the first one left, keeps every rule and drops none.
pub pruned-again : (w : ℕ) (cs vs ds ocs ovs ods hs ocs' ovs' ods' hs' : List ℕ) (t : Tally)
    → PruneDone w cs vs ds ocs ovs ods hs ocs' ovs' ods' hs' (Ok t)
    → (acs avs ads ahs acs' avs' ads' ahs' : List ℕ) (u : Tally)
    → PruneDone w (kept_words t ocs') (kept_words t ovs') (kept_decisions t ods') acs avs ads ahs acs' avs' ads' ahs' (Ok u)
    → (u.kept ≡ t.kept) × (u.dropped ≡ 0)
pruned-again w cs vs ds ocs ovs ods hs ocs' ovs' ods' hs' t D acs avs ads ahs acs' avs' ads' ahs' u E =
    let p : rules_of (kept_words t ocs') (kept_words t ovs') (kept_decisions t ods') ≡ prune w (rules_of cs vs ds) = pruned-places w cs vs ds ocs ovs ods hs ocs' ovs' ods' hs' t D in
    let a = counts w cs vs ds ocs ovs ods hs ocs' ovs' ods' hs' t D in
    let b = counts w _ _ _ acs avs ads ahs acs' avs' ads' ahs' u E in
    let same : prune w (rules_of (kept_words t ocs') (kept_words t ovs') (kept_decisions t ods')) ≡ prune w (rules_of cs vs ds) =
    ap (prune w) p ∙ prune-again w (rules_of cs vs ds) in
    (sym b.0 ∙ ap length same ∙ a.0, omega (arith, b.1, ap length p, ap length same))

-- ---- refused calls

-- A refused `prune` leaves the four result slices as they were.
pub refused-leaves : (w : ℕ) (cs vs ds ocs ovs ods hs ocs' ovs' ods' hs' : List ℕ) (x : Refusal)
    → PruneDone w cs vs ds ocs ovs ods hs ocs' ovs' ods' hs' (Err x)
    → (ocs' ≡ ocs) × (ovs' ≡ ovs) × (ods' ≡ ods) × (hs' ≡ hs)
refused-leaves w cs vs ds ocs ovs ods hs ocs' ovs' ods' hs' x D = (
  rw (sym D.reply) at D.cares,
  rw (sym D.reply) at D.values,
  rw (sym D.reply) at D.decisions,
  rw (sym D.reply) at D.headers,
)
