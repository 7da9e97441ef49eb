-- Up to width 12 the plain comparison is the comparison, and a wider one is refused (request 13).
use Prim.Native.Nat.{ℕ, ◌≤◌, ◌<◌}
use mathlib.Core.Path.{◌≡◌, subst}
use mathlib.Core.Logic.{◌≢◌, ◌↔◌}
use mathlib.Core.List.{List, Memᴰ}
use lib.ListN.{length}
use borrow.Author.Tests.{le-leb, lt-leb}
use Rattle.words.specs.Halves.{num}
use Rattle.rules.specs.declared.Wire.{Wire}
use Rattle.rules.specs.Rules.{answer}
use Rattle.rules.specs.Slices.{rules_of}
use Rattle.rules.specs.declared.Refusal.{Refusal}
use Rattle.rules.specs.declared.Reason.{Reason}
use Rattle.rules.specs.Replies.{Reply, Refuses}
use Rattle.std.specs.Prelude.{Result, Err}
use Rattle.rules.specs.Calls.{looked_up, decided, answered}
use Rattle.rules.proofs.ReplyLaws.{then_next, then-refuses, need-yes, need-no}
use Rattle.compare_check.specs.Checks.{compare_check}
use Rattle.compare.specs.declared.Compared.{Compared}
use Rattle.compare.specs.Runs.{Run, differences}
use Rattle.compare.specs.Demand.{Stands, listed_runs}
use Rattle.compare.specs.Calls.{counted, Finished, More, PortionDone, Comparison}
use Rattle.compare.proofs.DoneLaws.{done_refused}
use Rattle.compare.proofs.LookupDemands.{compare-lists-answers, compare-lists-exactly, compare-more-exactly, compare-more-differs}
use Rattle.compare.proofs.Unique.{done-once, compare-once}
use Rattle.plain_compare.specs.Calls.{widest_plain, plain_check, PlainComparison}

-- ---- the checks

module _ (w : ℕ) (oc ov od nc nv nd : List ℕ) (start a b c d : ℕ) where
  -- Up to width 12 they are those of the comparison.
  pub plain-check : w ≤ widest_plain → plain_check w oc ov od nc nv nd start a b c d ≡ compare_check w oc ov od nc nv nd start a b c d
  unfolding plain_check
  plain-check l = then_next _ _ (need-yes _ 1 0 0 (le-leb w widest_plain l))

  -- A wider width is refusal 1, whatever else is wrong.
  pub wide-check : widest_plain < w → plain_check w oc ov od nc nv nd start a b c d ≡ Refuses 1 0 0
  unfolding plain_check
  wide-check l = then-refuses _ _ (need-no _ 1 0 0 (lt-leb w widest_plain l))

module _ (w : ℕ) (oc ov od nc nv nd : List ℕ) (start : ℕ) (first last old new : List ℕ) where
  -- ---- wider widths

  -- refusal 1 at no place
  abbrev too-wide : Refusal
  too-wide = record { reason = Reason.Width; list = 0; rule = 0 }

  -- The plain comparison of a wider width refuses 1 at no place, and leaves the slices as they were.
  pub wide-refused : widest_plain < w → (first' last' old' new' : List ℕ) (r : Result Compared Refusal)
      → PlainComparison w oc ov od nc nv nd start first last old new first' last' old' new' r
      → (r ≡ Err too-wide) × (first' ≡ first) × (last' ≡ last) × (old' ≡ old) × (new' ≡ new)
  wide-refused l first' last' old' new' r p =
      done-once _ _ first last old new first' last' old' new' r first last old new _ p
      (done_refused _ too-wide _ first last old new (wide-check w oc ov od nc nv nd start _ _ _ _ l))

  -- ---- widths up to 12

  module _ (narrow : w ≤ widest_plain) where
    -- What keeps the promise of the plain comparison keeps that of the comparison.
    pub as-comparison : (first' last' old' new' : List ℕ) (r : Result Compared Refusal)
        → PlainComparison w oc ov od nc nv nd start first last old new first' last' old' new' r
        → Comparison w oc ov od nc nv nd start first last old new first' last' old' new' r
    as-comparison first' last' old' new' r =
        subst
        (λ (check : Reply). PortionDone check (differences w (answer (rules_of oc ov od)) (answer (rules_of nc nv nd)) start) first last old new first' last' old' new' r)
        (plain-check w oc ov od nc nv nd start (length first) (length last) (length old) (length new) narrow)

    -- The two list the same runs: they have the same answer and leave the same in the slices, for every input.
    pub same-comparison : (first₁ last₁ old₁ new₁ : List ℕ) (r : Result Compared Refusal) (first₂ last₂ old₂ new₂ : List ℕ) (s : Result Compared Refusal)
        → Comparison w oc ov od nc nv nd start first last old new first₁ last₁ old₁ new₁ r
        → PlainComparison w oc ov od nc nv nd start first last old new first₂ last₂ old₂ new₂ s
        → (r ≡ s) × (first₁ ≡ first₂) × (last₁ ≡ last₂) × (old₁ ≡ old₂) × (new₁ ≡ new₂)
    same-comparison first₁ last₁ old₁ new₁ r first₂ last₂ old₂ new₂ s p q =
        compare-once w oc ov od nc nv nd start first last old new first₁ last₁ old₁ new₁ r first₂ last₂ old₂ new₂ s p
        (as-comparison first₂ last₂ old₂ new₂ s q)

    -- ---- what it lists, told by the lookups

    module _ (first' last' old' new' : List ℕ) (r : Result Compared Refusal)
        (P : PlainComparison w oc ov od nc nv nd start first last old new first' last' old' new' r) where
      compared : Comparison w oc ov od nc nv nd start first last old new first' last' old' new' r
      compared = as-comparison first' last' old' new' r P

      -- On every header of a listed run the old list's lookup decides its old answer, and the new list's its new answer.
      pub plain-lists-answers : (x : Run) → Memᴰ x (listed_runs (counted r) first' last' old' new') → (h : ℕ) → x.first ≤ h → h ≤ x.last
          → (decided (looked_up w oc ov od h) ≡ answered x.old) × (decided (looked_up w nc nv nd h) ≡ answered x.new)
      plain-lists-answers = compare-lists-answers w oc ov od nc nv nd start first last old new first' last' old' new' r compared

      -- A call that finished lists, of the headers at or after the start, those on which the two lookups decide differently, and no others.
      pub plain-lists-exactly : Finished r → (h : ℕ) → start ≤ h
          → Stands h (listed_runs (counted r) first' last' old' new') ↔ (decided (looked_up w oc ov od h) ≢ decided (looked_up w nc nv nd h))
      plain-lists-exactly = compare-lists-exactly w oc ov od nc nv nd start first last old new first' last' old' new' r compared

      -- One that says more lists those before the header that it names, and that header is one itself.
      pub plain-more-exactly : (k : Wire) → More r k → (h : ℕ) → start ≤ h → h < num k.0
          → Stands h (listed_runs (counted r) first' last' old' new') ↔ (decided (looked_up w oc ov od h) ≢ decided (looked_up w nc nv nd h))
      plain-more-exactly = compare-more-exactly w oc ov od nc nv nd start first last old new first' last' old' new' r compared

      pub plain-more-differs : (k : Wire) → More r k
          → decided (looked_up w oc ov od (num k.0)) ≢ decided (looked_up w nc nv nd (num k.0))
      plain-more-differs = compare-more-differs w oc ov od nc nv nd start first last old new first' last' old' new' r compared
