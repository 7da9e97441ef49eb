-- By which numbers the checks before 28 refuse: no list's check has a number above 5, and 27 is the last.
use Prim.Native.Nat.{ℕ, ◌+◌, ◌*◌, ◌≤◌}
use mathlib.Core.Path.{◌≡◌, subst}
use mathlib.Core.List.{List, [], ◌∷◌}
use mathlib.Core.Bool.{Bool, true, false, ◌&&◌}
use native.Mathlib.Omega.{arith}
use lib.Dec.{leb, ltb, eqb}
use lib.ListN.{length}
use Rattle.rules.specs.Rule.{Rule}
use Rattle.rules.specs.Rules.{no_match}
use Rattle.rules.specs.Replies.{Reply, Gives, Refuses, need, ◌then◌}
use Rattle.rules.specs.Checks.{widest, width_check, lengths_check, size_check, pattern_fits, rule_check, rules_check, list_check}
use Rattle.rules.specs.Slices.{rules_of}
use Rattle.rules.specs.Calls.{check_list}
use Rattle.acceptance.specs.Accepting.{longer_check, candidate_check}

-- A refusal has no number above n.
unfoldable UpTo : ℕ → Reply → Type 0
UpTo n (Gives ns) = Unit {0}
UpTo n (Refuses m l r) = m ≤ n

up-to-given : (n : ℕ) (ns : List ℕ) → UpTo n (Gives ns)
unfolding UpTo
up-to-given n ns = tt

-- what it says of a refusal
number : (n m l r : ℕ) → UpTo n (Refuses m l r) → m ≤ n
unfolding UpTo
number n m l r x = x

up-to-need : (n : ℕ) (t : Bool) (m l r : ℕ) → m ≤ n → UpTo n (need t m l r)
unfolding UpTo
up-to-need n true m l r e = tt
up-to-need n false m l r e = e

up-to-then : (n : ℕ) (a b : Reply) → UpTo n a → UpTo n b → UpTo n (a then b)
unfolding UpTo
up-to-then n (Gives ns) b x y = y
up-to-then n (Refuses m l r) b x y = x

up-to-rule : (n w l i : ℕ) (r : Rule) → 5 ≤ n → UpTo n (rule_check w l i r)
unfolding rule_check
up-to-rule n w l i r e = up-to-then n _ _ (up-to-need n (pattern_fits w r) 4 l i (omega arith)) (up-to-need n (ltb r.decision no_match) 5 l i e)

up-to-rules : (n w l i : ℕ) (rs : List Rule) → 5 ≤ n → UpTo n (rules_check w l i rs)
unfolding rules_check
up-to-rules n w l i [] e = up-to-given n []
up-to-rules n w l i (r ∷ rs) e = up-to-then n _ _ (up-to-rule n w l i r e) (up-to-rules n w l (i + 1) rs e)

up-to-list : (n w l : ℕ) (cs vs ds : List ℕ) → 5 ≤ n → UpTo n (check_list w l cs vs ds)
unfolding check_list width_check list_check lengths_check size_check
up-to-list n w l cs vs ds e =
    up-to-then n _ _ (up-to-need n (leb 1 w && leb w widest) 1 0 0 (omega arith))
    (up-to-then n _ _ (up-to-need n (eqb (length cs) (length vs) && eqb (length cs) (length ds * 2)) 2 0 0 (omega arith))
    (up-to-then n _ _ (up-to-need n (leb (length ds) 1024) 3 l 0 (omega arith)) (up-to-rules n w l 1 (rules_of cs vs ds) e)))

module _ {n l r : ℕ} where
  -- A list is refused by no number above 5.
  pub list-number : (w k : ℕ) (cs vs ds : List ℕ) → check_list w k cs vs ds ≡ Refuses n l r → n ≤ 5
  list-number w k cs vs ds e = number 5 n l r (subst (UpTo 5) e (up-to-list 5 w k cs vs ds (omega arith)))

  -- Before any header is looked at no number above 27 stands.
  pub candidate-number : (w : ℕ) (sc sv sd cc cv cd : List ℕ) → candidate_check w sc sv sd cc cv cd ≡ Refuses n l r → n ≤ 27
  unfolding candidate_check longer_check
  candidate-number w sc sv sd cc cv cd e =
      number 27 n l r
      (subst (UpTo 27) e
      (up-to-then 27 _ _ (up-to-list 27 w 1 sc sv sd (omega arith))
      (up-to-then 27 _ _ (up-to-list 27 w 2 cc cv cd (omega arith)) (up-to-need 27 (leb (length cd) (length sd)) 27 0 0 (omega arith)))))
