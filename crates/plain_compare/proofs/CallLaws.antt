-- Laws of the call: headers of a width up to 12 as machine words, and what is known once the checks are passed.
use Prim.Native.Nat.{ℕ, ◌*◌, ◌%◌, ◌^◌, ◌≤◌, ◌<◌}
use mathlib.Core.Path.{◌≡◌, refl, sym, ◌∙◌}
use mathlib.Core.List.{List, []}
use native.Mathlib.Omega.{arith}
use lib.ListN.{length}
use lib.Dec.{leb}
use lib.Pow.{pow_mono}
use borrow.Author.Tests.{leb-true}
use Rattle.words.specs.declared.Word.{Word}
use Rattle.words.specs.Halves.{num}
use Rattle.words.proofs.WordLaws.{one_shifted}
use Rattle.std.specs.Prelude.{None, Ok}
use Rattle.rules.specs.Rules.{no_match, answer}
use Rattle.rules.specs.Slices.{rules_of}
use Rattle.rules.specs.Replies.{passed}
use Rattle.rules.specs.Checks.{Sound}
use Rattle.rules.proofs.ReplyLaws.{need-then}
use Rattle.compare_check.proofs.OrderLaws.{ComparisonReady, comparison-ready, check-without}
use Rattle.compare.specs.declared.Compared.{Compared}
use Rattle.compare.specs.Sweep.{Room, RunsPut}
use Rattle.compare.proofs.DoneLaws.{went_on}
use Rattle.plain_compare.specs.Calls.{widest_plain, plain_check, PlainComparison}
use Rattle.plain_compare.proofs.Same.{plain-check}

-- ---- numbers

-- a width up to 12 has no more headers than these
pub few-headers : (w : ℕ) → w ≤ widest_plain → 2 ^ w ≤ 4096
few-headers w l = pow_mono l

-- how many, as the code comes to it
pub end-shifted : (w : ℕ) → w ≤ widest_plain → 1 * 2 ^ w % 2 ^ 64 ≡ 2 ^ w
end-shifted w l = one_shifted w (omega arith)

-- each is the low half of its word
low_half : (w : ℕ) (x : Word) → w ≤ widest_plain → num x < 2 ^ w → x.low ≡ num x
unfolding num
low_half w x l p = omega (arith, few-headers w l)

-- ---- a call that is not refused

module _ (w : ℕ) (oc ov od nc nv nd : List ℕ) (x : Word) (first last old new : List ℕ)
    (fine : passed ≡ plain_check w oc ov od nc nv nd (num x) (length first) (length last) (length old) (length new)) where
  narrow : w ≤ widest_plain
  unfolding plain_check
  narrow = leb-true w widest_plain (need-then (leb w widest_plain) 1 0 0 _ [] (sym fine))

  ready : ComparisonReady w oc ov od None nc nv nd None (num x) (length first) (length last) (length old) (length new)
  ready =
      comparison-ready w oc ov od None nc nv nd None (num x) _ _ _ _
      (sym (check-without w oc ov od nc nv nd (num x) _ _ _ _) ∙ sym (plain-check w oc ov od nc nv nd (num x) _ _ _ _ narrow) ∙ sym fine)

  low-start : x.low ≡ num x
  low-start = low_half w x narrow ready.portion.below

  -- the walk may start
  pub walk-ready : Sound w oc ov od × Sound w nc nv nd × (w ≤ widest_plain) × (x.low < 2 ^ w) × Room first last old new
  walk-ready = (
    ready.old-list,
    ready.new-list,
    narrow,
    omega (arith, low-start, ready.portion.below),
    record { lasts = ready.portion.lasts; olds = ready.portion.olds; news = ready.portion.news },
  )

  -- and what it leaves is what the call promises
  pub walk-done : (first' last' old' new' : List ℕ) (r : Compared)
      → RunsPut (answer (rules_of oc ov od)) (answer (rules_of nc nv nd)) (2 ^ w) x.low first last old new first' last' old' new' r
      → PlainComparison w oc ov od nc nv nd (num x) first last old new first' last' old' new' (Ok r)
  walk-done first' last' old' new' r o =
      went_on _ (sym fine) w (num x) (rules_of oc ov od) (rules_of nc nv nd) None None no_match no_match refl refl
      first last old new first' last' old' new' (Ok r) (rw low-start at o)
