-- Demand 3 of the call that compares outcomes, told by what the lookups of the two lists decide, or else the sides' defaults, and by what
-- its result slices hold. All of it follows from the promise of the call. Of `compare` it is the same without defaults.
use Prim.Native.Nat.{ℕ, ◌^◌, ◌≤◌, ◌<◌}
use mathlib.Core.Path.{◌≡◌, ap, ◌∙◌}
use mathlib.Core.Logic.{◌≢◌, ◌↔◌}
use mathlib.Core.List.{List, Memᴰ}
use lib.ListN.{length}
use Rattle.words.specs.Halves.{num}
use Rattle.rules.specs.declared.Wire.{Wire}
use Rattle.rules.specs.Slices.{rules_of}
use Rattle.rules.specs.Replies.{Gives}
use Rattle.rules.specs.Calls.{looked_up, decided, answered}
use Rattle.rules.proofs.CheckLaws.{sound-list}
use Rattle.std.specs.Prelude.{Option, None, Result}
use Rattle.rules.specs.declared.Refusal.{Refusal}
use Rattle.compare_check.specs.Outcomes.{outcome, or_default}
use Rattle.compare_check.specs.Checks.{outcomes_check}
use Rattle.compare_check.proofs.OrderLaws.{comparison-ready}
use Rattle.compare_check.proofs.OutcomeLaws.{looked-outcome, outcomes-differently}
use Rattle.compare.specs.declared.Compared.{Compared}
use Rattle.compare.specs.Runs.{Run}
use Rattle.compare.specs.Demand.{Stands, listed_runs}
use Rattle.compare.specs.Calls.{Finished, More, counted, OutcomesCompared, Comparison}
use Rattle.compare.proofs.DoneLaws.{compare-without}
use Rattle.compare.proofs.Demands.{nothing-else, more-names-a-difference, more-skips-nothing}
use Rattle.compare.proofs.CallDemands.{finished-passes, more-passes, listed-passes, listed-portion, call-finishes, call-names}

module _ (w : ℕ) (oc ov od : List ℕ) (old_default : Option ℕ) (nc nv nd : List ℕ) (new_default : Option ℕ) (start : ℕ)
    (first last old new first' last' old' new' : List ℕ) (r : Result Compared Refusal)
    (C : OutcomesCompared w oc ov od old_default nc nv nd new_default start first last old new first' last' old' new' r) where
  -- On every header of a listed run the old list's lookup decides its old answer, or else the old default is it; likewise the new one's.
  pub listed-answers : (x : Run) → Memᴰ x (listed_runs (counted r) first' last' old' new') → (h : ℕ) → x.first ≤ h → h ≤ x.last
      → (or_default old_default (decided (looked_up w oc ov od h)) ≡ answered x.old) × (or_default new_default (decided (looked_up w nc nv nd h)) ≡ answered x.new)
  listed-answers x m h a b =
      let f = listed-passes _ w _ _ start first last old new first' last' old' new' r C x m in
      let p = comparison-ready w oc ov od old_default nc nv nd new_default start _ _ _ _ f.0.1 in
      let n = nothing-else w _ _ start h x f.1 a b in
      (looked-outcome w 1 old_default oc ov od h (sound-list w 1 oc ov od p.old-list) p.old-default n.1 ∙ ap answered n.2, looked-outcome w 2 new_default nc nv nd h (sound-list w 1 nc nv nd p.new-list) p.new-default n.1 ∙ ap answered n.3)

  module _ {ns : List ℕ} (fine : outcomes_check w oc ov od old_default nc nv nd new_default start (length first) (length last) (length old) (length new) ≡ Gives ns) where
    -- With their defaults the lookups of a header in its two lists decide differently exactly where the header is of the width and the
    -- two outcomes differ.
    told : (h : ℕ) → (or_default old_default (decided (looked_up w oc ov od h)) ≢ or_default new_default (decided (looked_up w nc nv nd h)))
        ↔ ((h < 2 ^ w) × (outcome old_default (rules_of oc ov od) h ≢ outcome new_default (rules_of nc nv nd) h))
    told h =
        let p = comparison-ready w oc ov od old_default nc nv nd new_default start _ _ _ _ fine in
        outcomes-differently w oc ov od old_default nc nv nd new_default h (sound-list w 1 oc ov od p.old-list) (sound-list w 1 nc nv nd p.new-list) p.old-default p.new-default

    -- A header that stands in a listed run is one on which they decide differently.
    listed-differs : (h : ℕ) → Stands h (listed_runs (counted r) first' last' old' new')
        → or_default old_default (decided (looked_up w oc ov od h)) ≢ or_default new_default (decided (looked_up w nc nv nd h))
    listed-differs h s =
        let m = (listed-passes _ w _ _ start first last old new first' last' old' new' r C s.0 s.1).1 in
        let n = nothing-else w _ _ start h s.0 m s.2 s.3 in
        (told h).1 (n.1, n.4)

  -- A call that finished lists, of the headers at or after the start, those on which the two lookups with their defaults decide
  -- differently, and no others.
  pub finished-lists-exactly : Finished r → (h : ℕ) → start ≤ h
      → Stands h (listed_runs (counted r) first' last' old' new')
      ↔ (or_default old_default (decided (looked_up w oc ov od h)) ≢ or_default new_default (decided (looked_up w nc nv nd h)))
  finished-lists-exactly e h l =
      let fine = (finished-passes _ w _ _ start first last old new first' last' old' new' r C e).1 in (
        listed-differs fine h,
        λ n.
            let d = (told fine h).0 n in
            rw (listed-portion _ w _ _ start first last old new first' last' old' new' r C fine)
            ((call-finishes _ w _ _ start first last old new first' last' old' new' r C fine).0 e h l d.0 d.1),
      )

  module _ (k : Wire) (e : More r k) where
    -- A call that says more lists, of the headers from the start on and before the one that it names, those on which the two lookups with
    -- their defaults decide differently, and no others.
    pub more-lists-exactly : (h : ℕ) → start ≤ h → h < num k.0
        → Stands h (listed_runs (counted r) first' last' old' new')
        ↔ (or_default old_default (decided (looked_up w oc ov od h)) ≢ or_default new_default (decided (looked_up w nc nv nd h)))
    more-lists-exactly h l m =
        let fine = (more-passes _ w _ _ start first last old new first' last' old' new' r C k e).1 in (
          listed-differs fine h,
          λ n.
              rw (listed-portion _ w _ _ start first last old new first' last' old' new' r C fine)
              (more-skips-nothing w _ _ start (length old) (num k.0)
              (call-names _ w _ _ start first last old new first' last' old' new' r C fine k e) h l m ((told fine h).0 n).1),
        )

    -- The header that it names is itself one on which they decide differently.
    pub named-differs : or_default old_default (decided (looked_up w oc ov od (num k.0))) ≢ or_default new_default (decided (looked_up w nc nv nd (num k.0)))
    named-differs =
        let fine = (more-passes _ w _ _ start first last old new first' last' old' new' r C k e).1 in
        let n = more-names-a-difference w _ _ start (length old) (num k.0) (call-names _ w _ _ start first last old new first' last' old' new' r C fine k e) in
        (told fine (num k.0)).1 (n.1, n.2)

-- ---- `compare`: without defaults

module _ (w : ℕ) (oc ov od nc nv nd : List ℕ) (start : ℕ) (first last old new first' last' old' new' : List ℕ) (r : Result Compared Refusal)
    (C : Comparison w oc ov od nc nv nd start first last old new first' last' old' new' r) where
  without : OutcomesCompared w oc ov od None nc nv nd None start first last old new first' last' old' new' r
  without = (compare-without w oc ov od nc nv nd start first last old new first' last' old' new' r).0 C

  -- On every header of a listed run the old list's lookup decides its old answer, and the new list's its new answer.
  pub compare-lists-answers : (x : Run) → Memᴰ x (listed_runs (counted r) first' last' old' new') → (h : ℕ) → x.first ≤ h → h ≤ x.last
      → (decided (looked_up w oc ov od h) ≡ answered x.old) × (decided (looked_up w nc nv nd h) ≡ answered x.new)
  compare-lists-answers = listed-answers w oc ov od None nc nv nd None start first last old new first' last' old' new' r without

  -- A call that finished lists, of the headers at or after the start, those on which the two lookups decide differently, and no others.
  pub compare-lists-exactly : Finished r → (h : ℕ) → start ≤ h
      → Stands h (listed_runs (counted r) first' last' old' new') ↔ (decided (looked_up w oc ov od h) ≢ decided (looked_up w nc nv nd h))
  compare-lists-exactly = finished-lists-exactly w oc ov od None nc nv nd None start first last old new first' last' old' new' r without

  -- One that says more lists those before the header that it names, and that header is one itself.
  pub compare-more-exactly : (k : Wire) → More r k → (h : ℕ) → start ≤ h → h < num k.0
      → Stands h (listed_runs (counted r) first' last' old' new') ↔ (decided (looked_up w oc ov od h) ≢ decided (looked_up w nc nv nd h))
  compare-more-exactly = more-lists-exactly w oc ov od None nc nv nd None start first last old new first' last' old' new' r without

  pub compare-more-differs : (k : Wire) → More r k → decided (looked_up w oc ov od (num k.0)) ≢ decided (looked_up w nc nv nd (num k.0))
  compare-more-differs = named-differs w oc ov od None nc nv nd None start first last old new first' last' old' new' r without
