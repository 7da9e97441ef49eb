-- Laws of what a comparison leaves: by the verdict of its checks, and where no side has a default.
use Prim.Native.Nat.{ℕ}
use mathlib.Core.Path.{◌≡◌, refl, sym, ap, ◌∙◌, subst, subst⁻¹}
use mathlib.Core.Logic.{◌↔◌}
use mathlib.Core.List.{List, []}
use lib.ListN.{length}
use Rattle.words.specs.Slices.{halves_of}
use Rattle.rules.specs.Rule.{Rule}
use Rattle.rules.specs.declared.Refusal.{Refusal}
use Rattle.std.specs.Prelude.{Option, None, Result, Ok, Err, IsErrAnd}
use Rattle.rules.specs.Rules.{first, answer}
use Rattle.rules.specs.Slices.{rules_of}
use Rattle.rules.specs.Replies.{Reply, passed, refusal_reply}
use Rattle.compare_check.specs.Outcomes.{miss_number, outcome}
use Rattle.compare_check.proofs.OrderLaws.{check-without}
use Rattle.compare.specs.declared.Compared.{Compared}
use Rattle.compare.specs.Runs.{Run, differences}
use Rattle.compare.specs.Calls.{halved, PortionDone, OutcomesCompared, Comparison}

pub nothing-halved : (number : Run → ℕ) (was : List ℕ) → was ≡ halved number [] was
unfolding halves_of
nothing-halved number was = refl

pub done_refused : (check : Reply) (x : Refusal) (rs : List Run) (first last old new : List ℕ) → check ≡ refusal_reply x
    → PortionDone check rs first last old new first last old new (Err x)
done_refused check x rs first last old new e =
    rw e (record {
      reply = refl;
      count = refl;
      firsts = nothing-halved (λ (y : Run). y.first) first;
      lasts = nothing-halved (λ (y : Run). y.last) last;
      olds = refl;
      news = refl;
    })

done-passed : (check : Reply) (rs : List Run) (first last old new first' last' old' new' : List ℕ) (r : Result Compared Refusal) → check ≡ passed
    → PortionDone passed rs first last old new first' last' old' new' r → PortionDone check rs first last old new first' last' old' new' r
done-passed check rs first last old new first' last' old' new' r e o = rw e o

-- a call that passes a refusal of its checks up writes nothing
pub stopped : (check : Reply) (x : Refusal) (rs : List Run) (first last old new : List ℕ) (r : Result Compared Refusal) → IsErrAnd r (λ y. y ≡ x) → refusal_reply x ≡ check
    → PortionDone check rs first last old new first last old new r
stopped check x rs first last old new (Ok c) e p = absurd e
stopped check x rs first last old new (Err y) e p = done_refused check y rs first last old new (sym p ∙ ap refusal_reply (sym e))

-- and one that passes them puts the runs (with the number that a miss counts as on each side)
pub went_on : (check : Reply) → check ≡ passed → (w start : ℕ) (olds news : List Rule) (old_default new_default : Option ℕ) (m n : ℕ)
    → m ≡ miss_number old_default → n ≡ miss_number new_default → (begin last old new begin' last' old' new' : List ℕ) (r : Result Compared Refusal)
    → PortionDone passed (differences w (λ h. first olds h m) (λ h. first news h n) start) begin last old new begin' last' old' new' r
    → PortionDone check (differences w (outcome old_default olds) (outcome new_default news) start) begin last old new begin' last' old' new' r
went_on check e w start olds news old_default new_default m n y z begin last old new begin' last' old' new' r o =
    done-passed check _ begin last old new begin' last' old' new' r e (rw (y, z) at o)

-- Comparing two lists is comparing their outcomes with no default on both sides.
pub compare-without : (w : ℕ) (oc ov od nc nv nd : List ℕ) (start : ℕ) (first last old new first' last' old' new' : List ℕ) (r : Result Compared Refusal)
    → Comparison w oc ov od nc nv nd start first last old new first' last' old' new' r
    ↔ OutcomesCompared w oc ov od None nc nv nd None start first last old new first' last' old' new' r
compare-without w oc ov od nc nv nd start first last old new first' last' old' new' r =
    let e = check-without w oc ov od nc nv nd start (length first) (length last) (length old) (length new) in
    (subst Done e, subst⁻¹ Done e)
  where
    Done : Reply → Type 0
    Done check =
        PortionDone check (differences w (answer (rules_of oc ov od)) (answer (rules_of nc nv nd)) start) first last old new first' last' old' new' r
