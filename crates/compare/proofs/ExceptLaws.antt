-- Laws of a list without one of its rules: what it answers.
use mathlib.Core.Path.{◌≡◌, refl, sym, ap, ◌∙◌}
use mathlib.Core.Logic.{◌≢◌}
use mathlib.Core.List.{List, [], ◌∷◌}
use mathlib.Core.Bool.{true, false}
use Prim.Native.Nat.{ℕ, zero, suc, ◌≤◌, ◌<◌}
use native.Mathlib.Omega.{arith}
use lib.ListN.{length}
use Rattle.words.proofs.Tests.{split}
use Rattle.rules.specs.Rule.{Rule}
use Rattle.rules.specs.Rules.{matches, first}
use Rattle.rules.specs.Lists.{except}
use Rattle.rules.specs.Slices.{rule_at}
use Rattle.rules.proofs.RuleLaws.{first-hit, first-miss, first-cons}

-- past the end there is nothing to take out
pub except-past : (rs : List Rule) (k : ℕ) → length rs ≤ k → except k rs ≡ rs
except-past [] k h = refl
except-past (r ∷ rs) zero h = absurd (omega arith)
except-past (r ∷ rs) (suc k) h = ap (λ (l : List Rule). r ∷ l) (except-past rs k (omega arith))

-- ---- the first answer, whatever a miss counts as

-- a rule that does not match the header can be taken out
pub unmatched-first : (rs : List Rule) (k h d : ℕ) → matches (rule_at rs k) h ≡ false → first (except k rs) h d ≡ first rs h d
unmatched-first [] k h d e = refl
unmatched-first (r ∷ rs) zero h d e = sym (first-miss r rs h d e)
unmatched-first (r ∷ rs) (suc k) h d e = first-cons r (except k rs) rs h d (unmatched-first rs k h d e)

-- so can a rule with one before it that matches
pub earlier-first : (rs : List Rule) (j k h d : ℕ) → j < k → matches (rule_at rs j) h ≡ true → first (except k rs) h d ≡ first rs h d
earlier-first [] j k h d l e = refl
earlier-first (r ∷ rs) j zero h d l e = absurd (omega arith)
earlier-first (r ∷ rs) zero (suc k) h d l e = first-hit r (except k rs) h d e ∙ sym (first-hit r rs h d e)
earlier-first (r ∷ rs) (suc j) (suc k) h d l e = first-cons r (except k rs) rs h d (earlier-first rs j k h d (omega arith) e)

-- where taking out a rule changes the answer, it still does so when a rule before it is gone, and the rule itself stands one position
-- earlier; if a rule before both matches, it decides all four answers
pub change-later : (rs : List Rule) (j k h d : ℕ) → j ≤ k → first (except (suc k) rs) h d ≢ first rs h d
    → first (except k (except j rs)) h d ≢ first (except j rs) h d
change-later [] j k h d l n e = n refl
change-later (r ∷ rs) zero k h d l n e = n (first-cons r (except k rs) rs h d e)
change-later (r ∷ rs) (suc j) zero h d l n e = absurd (omega arith)
change-later (r ∷ rs) (suc j) (suc k) h d l n e =
    split (matches r h)
    (λ y. n (first-hit r (except (suc k) rs) h d y ∙ sym (first-hit r rs h d y)))
    (λ m.
    change-later rs j k h d (omega arith) (λ q. n (first-cons r (except (suc k) rs) rs h d q))
    (sym (first-miss r (except k (except j rs)) h d m) ∙ e ∙ first-miss r (except j rs) h d m))
