-- Laws of outcomes: a default counts where no rule matches and nowhere else, and what two lookups decide with their defaults differs
-- exactly where the outcomes do.
use Prim.Native.Nat.{ℕ, ◌^◌, ◌<◌, ◌≤◌}
use mathlib.Core.Path.{◌≡◌, refl, sym, ap, ◌∙◌}
use mathlib.Core.Logic.{◌≢◌, ◌↔◌}
use mathlib.Core.List.{List, [], ◌∷◌}
use mathlib.Core.Bool.{Bool}
use native.Mathlib.Omega.{arith}
use lib.Dec.{ltb}
use lib.ListN.{length}
use borrow.Author.Tests.{ltb-true, ltb-false, ne_eqb}
use Rattle.words.proofs.Tests.{split}
use Rattle.rules.specs.Rule.{Rule}
use Rattle.rules.specs.Rules.{no_match, position, Valid}
use Rattle.rules.specs.Lists.{All}
use Rattle.rules.specs.Slices.{rules_of, rule_at}
use Rattle.rules.specs.Found.{Hits, Misses}
use Rattle.rules.specs.Replies.{Gives, passed}
use Rattle.rules.specs.Calls.{check_list, gives_if, first_hit, looked_up, decided, answered}
use Rattle.rules.proofs.ReplyLaws.{need-passed}
use Rattle.rules.proofs.CheckLaws.{list-sound}
use Rattle.rules.proofs.RuleLaws.{position-le, valid-at}
use Rattle.rules.proofs.HitLaws.{hits-first, misses-first, position-hits, end-misses, hit-reply, miss-reply, decided-answered}
use Rattle.rules.proofs.AnswerLaws.{differ-exactly, looked-found, looked-past}
use Rattle.std.specs.Prelude.{Option, Some, None}
use Rattle.compare_check.specs.Outcomes.{miss_number, outcome, or_default}
use Rattle.compare_check.specs.Checks.{default_check}

-- Where a rule is hit the outcome is its decision, whatever the default.
pub outcome-hit : (default : Option ℕ) (rs : List Rule) (h i : ℕ) → Hits rs h i → outcome default rs h ≡ (rule_at rs i).decision
outcome-hit default rs h i x = hits-first rs h i (miss_number default) x

-- Where none is hit it is the default, else no match.
pub outcome-miss : (default : Option ℕ) (rs : List Rule) (h : ℕ) → Misses rs h → outcome default rs h ≡ miss_number default
outcome-miss default rs h m = misses-first rs h (miss_number default) m

-- A decision is not taken for no match.
decision-answered : (d : ℕ) → d < no_match → Gives (d ∷ []) ≡ answered d
decision-answered d l = sym (ap (λ (t : Bool). gives_if t (Gives []) (Gives (d ∷ []))) (ne_eqb d no_match (omega arith)))

-- What is found of a header, with the default in the place of no match, is the outcome.
found-outcome : (w s : ℕ) (default : Option ℕ) (rs : List Rule) (h : ℕ) → All (Valid w) rs → default_check s default ≡ passed
    → or_default default (decided (first_hit rs h)) ≡ answered (outcome default rs h)
unfolding default_check
found-outcome w s None rs h a e = decided-answered w rs h a
found-outcome w s (Some d) rs h a e =
    split (ltb (position rs h) (length rs))
    (λ y.
    let l = ltb-true (position rs h) (length rs) y in
    let x = position-hits rs h (position rs h) l refl in
    ap (λ r. or_default (Some d) (decided r)) (hit-reply rs h (position rs h) _ (x, refl))
    ∙ decision-answered _ (valid-at w rs (position rs h) a l).decides
    ∙ sym (ap answered (outcome-hit (Some d) rs h (position rs h) x)))
    (λ n.
    let m = end-misses rs h (omega (arith, ltb-false (position rs h) (length rs) n, position-le rs h)) in
    ap (λ r. or_default (Some d) (decided r)) (miss-reply rs h m)
    ∙ decision-answered d (ltb-true d no_match (need-passed (ltb d no_match) 5 s 0 e))
    ∙ sym (ap answered (outcome-miss (Some d) rs h m)))

-- A header of the width, looked up in a list that passes: what the lookup decides, or the default, is the outcome.
pub looked-outcome : (w s : ℕ) (default : Option ℕ) (cs vs ds : List ℕ) (h : ℕ) → check_list w 1 cs vs ds ≡ passed → default_check s default ≡ passed → h < 2 ^ w
    → or_default default (decided (looked_up w cs vs ds h)) ≡ answered (outcome default (rules_of cs vs ds) h)
looked-outcome w s default cs vs ds h p e l =
    ap (λ r. or_default default (decided r)) (looked-found w cs vs ds h p l)
    ∙ found-outcome w s default (rules_of cs vs ds) h (list-sound w 1 cs vs ds p).valid e

-- Every other header is refused, whatever the default.
looked-outside : (w : ℕ) (default : Option ℕ) (cs vs ds : List ℕ) (h : ℕ) → check_list w 1 cs vs ds ≡ passed → 2 ^ w ≤ h
    → or_default default (decided (looked_up w cs vs ds h)) ≡ decided (looked_up w cs vs ds h)
looked-outside w None cs vs ds h p l = refl
looked-outside w (Some d) cs vs ds h p l =
    ap (λ r. or_default (Some d) (decided r)) (looked-past w cs vs ds h p l) ∙ sym (ap decided (looked-past w cs vs ds h p l))

module _ (w : ℕ) (cs vs ds : List ℕ) (old : Option ℕ) (cs' vs' ds' : List ℕ) (new : Option ℕ) (h : ℕ)
    (p : check_list w 1 cs vs ds ≡ passed) (q : check_list w 1 cs' vs' ds' ≡ passed)
    (y : default_check 1 old ≡ passed) (z : default_check 2 new ≡ passed) where
  -- In two lists that pass, the lookups of a header with the sides' defaults decide differently exactly where it is of the width and the
  -- two outcomes differ.
  pub outcomes-differently : (or_default old (decided (looked_up w cs vs ds h)) ≢ or_default new (decided (looked_up w cs' vs' ds' h)))
      ↔ ((h < 2 ^ w) × (outcome old (rules_of cs vs ds) h ≢ outcome new (rules_of cs' vs' ds') h))
  outcomes-differently =
      differ-exactly w h _ _ _ _ (looked-outcome w 1 old cs vs ds h p y) (looked-outcome w 2 new cs' vs' ds' h q z)
      (λ l.
      looked-outside w old cs vs ds h p l
      ∙ ap decided (looked-past w cs vs ds h p l ∙ sym (looked-past w cs' vs' ds' h q l))
      ∙ sym (looked-outside w new cs' vs' ds' h q l))
