-- What the call `weave` owes its user (demand 2), read off its own promise: the list that it leaves, how long that is, that it
-- passes a list's checks and how it answers; and that a refused call leaves every slice as it was.
use mathlib.Core.Path.{◌≡◌, sym, ap, ◌∙◌}
use mathlib.Core.List.{List, [], ◌∷◌}
use Prim.Native.Nat.{ℕ, ◌+◌, ◌*◌, ◌≤◌}
use native.Mathlib.Omega.{arith}
use lib.ListN.{length, take}
use Rattle.std.specs.Prelude.{Ok, Err}
use Rattle.rules.specs.Rule.{Rule}
use Rattle.rules.specs.Rules.{answer}
use Rattle.rules.specs.declared.Refusal.{Refusal}
use Rattle.rules.specs.Slices.{rules_of, Lent}
use Rattle.rules.specs.Replies.{Gives, passed}
use Rattle.rules.specs.Checks.{lengths_check, room_check, Sound}
use Rattle.rules.specs.Calls.{check_list, looked_up, decided}
use Rattle.rules.proofs.ReplyLaws.{then-second}
use Rattle.rules.proofs.SliceLaws.{rules-length}
use Rattle.rules.proofs.PaddedLaws.{front-together, front-rules}
use Rattle.rules.proofs.CheckLaws.{list-sound, list-first}
use Rattle.rules.proofs.AnswerLaws.{decide-alike}
use Rattle.weaving.specs.declared.Tally.{Tally}
use Rattle.weaving.specs.Weave.{weave, kept, dropped, merges}
use Rattle.weaving.specs.Calls.{RunsDone, weave_reply, WeaveDone}
use Rattle.weaving.proofs.Theorems.{weave-keeps-answers, weave-keeps-some, counts-add-up, woven-list-passes}

-- ---- the kept places

-- The entries of the kept rules in a care slice or a value slice.
abbrev pub kept_words : Tally → List ℕ → List ℕ
kept_words t words = take (t.kept * 2) words

-- The decisions of the kept rules.
abbrev pub kept_decisions : Tally → List ℕ → List ℕ
kept_decisions t decisions = take t.kept decisions

-- ---- weaving

module _ (w : ℕ) (cs vs ds ocs ovs ods ocs' ovs' ods' : List ℕ) (t : Tally)
    (D : WeaveDone w cs vs ds ocs ovs ods ocs' ovs' ods' (Ok t)) where
  abbrev woven : List Rule
  woven = weave w (rules_of cs vs ds)

  -- what the call said
  said : weave_reply w cs vs ds ocs ovs ods ≡ Gives (t.kept ∷ t.dropped ∷ t.merged ∷ [])
  said = sym D.reply

  -- the list lent passed its checks
  source-passes : check_list w 1 cs vs ds ≡ passed
  unfolding weave_reply
  source-passes = list-first w 1 cs vs ds _ said

  source_sound : Sound w cs vs ds
  source_sound = list-sound w 1 cs vs ds source-passes

  source-length : length (rules_of cs vs ds) ≡ length ds
  source-length = rules-length cs vs ds source_sound.lent

  -- the three counts are those of the definitions
  counts : Gives (kept w (rules_of cs vs ds) ∷ dropped (rules_of cs vs ds) ∷ merges w (rules_of cs vs ds) ∷ []) ≡ Gives (t.kept ∷ t.dropped ∷ t.merged ∷ [])
  unfolding weave_reply
  counts =
      then-second (room_check (length ds) (length ods)) _ _
      (then-second (lengths_check ocs ovs ods) _ _ (then-second (check_list w 1 cs vs ds) _ _ said))

  keeps : length woven ≡ t.kept
  keeps = let e = counts in cc

  drops : dropped (rules_of cs vs ds) ≡ t.dropped
  drops = let e = counts in cc

  joins : merges w (rules_of cs vs ds) ≡ t.merged
  joins = let e = counts in cc

  -- the kept places of the three slices belong together
  kept-together : Lent (kept_words t ocs') (kept_words t ovs') (kept_decisions t ods')
  kept-together = front-together _ _ said woven t.kept keeps _ _ _ ocs ovs ods ocs' ovs' ods' D.cares D.values D.decisions

  -- The first places of the result slices, as many as the call says it kept, hold the woven list, entry for entry.
  pub woven-places : rules_of (kept_words t ocs') (kept_words t ovs') (kept_decisions t ods') ≡ weave w (rules_of cs vs ds)
  woven-places = front-rules _ _ said woven t.kept keeps _ _ _ ocs ovs ods ocs' ovs' ods' D.cares D.values D.decisions

  -- The three counts of the answer add up to the number of rules lent.
  pub woven-counts : t.kept + t.dropped + t.merged ≡ length ds
  woven-counts = omega (arith, counts-add-up w (rules_of cs vs ds), source-length, keeps, drops, joins)

  -- The woven list has no more entries than the list lent has rules.
  pub woven-shorter : t.kept ≤ length ds
  woven-shorter = omega (arith, woven-counts)

  -- It has an entry where the list lent has a rule.
  pub woven-some : 1 ≤ length ds → 1 ≤ t.kept
  woven-some h = omega (arith, keeps, weave-keeps-some w (rules_of cs vs ds) source_sound.valid (omega (arith, source-length)))

  -- The woven list passes the checks that every call makes of a list lent to it, whichever number the call names it by.
  pub woven-passes : (l : ℕ) → check_list w l (kept_words t ocs') (kept_words t ovs') (kept_decisions t ods') ≡ passed
  woven-passes l = woven-list-passes w l cs vs ds _ _ _ source_sound kept-together woven-places

  -- Looking a header up in the woven list decides as in the list lent: the same decision, no match where there is none, and the
  -- same refusal where the header is no header of the width. The rule that is hit has its number in the list that is looked up in.
  pub woven-lookup : (h : ℕ) → decided (looked_up w (kept_words t ocs') (kept_words t ovs') (kept_decisions t ods') h) ≡ decided (looked_up w cs vs ds h)
  woven-lookup h =
      decide-alike w (kept_words t ocs') (kept_words t ovs') (kept_decisions t ods') cs vs ds h (woven-passes 1) source-passes
      (ap (λ (rs : List Rule). answer rs h) woven-places ∙ weave-keeps-answers w (rules_of cs vs ds) source_sound.valid h)

-- ---- refused calls

-- A refused `weave` leaves the three result slices as they were.
pub refused-leaves : (w : ℕ) (cs vs ds ocs ovs ods ocs' ovs' ods' : List ℕ) (x : Refusal)
    → WeaveDone w cs vs ds ocs ovs ods ocs' ovs' ods' (Err x) → (ocs' ≡ ocs) × (ovs' ≡ ovs) × (ods' ≡ ods)
refused-leaves w cs vs ds ocs ovs ods ocs' ovs' ods' x D =
    (rw (sym D.reply) at D.cares, rw (sym D.reply) at D.values, rw (sym D.reply) at D.decisions)

-- A refused `runs` leaves the slice of sizes as it was.
pub runs-refused-leaves : (w : ℕ) (cs vs ds sizes sizes' : List ℕ) (x : Refusal)
    → RunsDone w cs vs ds sizes sizes' (Err x) → sizes' ≡ sizes
runs-refused-leaves w cs vs ds sizes sizes' x D = rw (sym D.reply) at D.after
