-- Laws of the rule that a header hits: it stands where `position` says, it is the only one, and its decision is what the list answers.
use mathlib.Core.Path.{◌≡◌, refl, sym, ap, ap₂, ◌∙◌, subst}
use mathlib.Core.List.{List, [], ◌∷◌, map}
use mathlib.Core.Bool.{Bool, true, false}
use Prim.Native.Nat.{ℕ, zero, suc, ◌+◌, ◌<◌}
use native.Mathlib.Omega.{arith}
use lib.Dec.{ltb}
use lib.ListN.{length, get_or, get_or-eq_default, length-map}
use borrow.Author.Tests.{lt-ltb, le-ltb, ltb-true, ltb-false, ne_eqb}
use Rattle.words.proofs.Tests.{split, true-false}
use Rattle.rules.specs.Rule.{Rule}
use Rattle.rules.specs.Rules.{matches, first, position, answer, no_match, Valid}
use Rattle.rules.specs.Lists.{All}
use Rattle.rules.specs.Slices.{rule_at}
use Rattle.rules.specs.Found.{NoneBefore, Hits, Misses}
use Rattle.rules.specs.Replies.{Gives}
use Rattle.rules.specs.Calls.{gives_if, first_hit, decided, answered}
use Rattle.rules.proofs.ReplyLaws.{two_none, two-values}
use Rattle.rules.proofs.RuleLaws.{valid-at, answer-position, position-hit, position-miss, position-le}

-- ---- where the rule stands

-- by the test whether the position is inside the list: where it is not, it is the list's end
inside-list : (rs : List Rule) (h : ℕ) → ltb (position rs h) (length rs) ≡ true → position rs h < length rs
inside-list rs h y = ltb-true (position rs h) (length rs) y

end-of-list : (rs : List Rule) (h : ℕ) → ltb (position rs h) (length rs) ≡ false → position rs h ≡ length rs
end-of-list rs h n = omega (arith, ltb-false (position rs h) (length rs) n, position-le rs h)

-- the rule at the position of the first match matches
position-matches : (rs : List Rule) (h : ℕ) → position rs h < length rs → matches (rule_at rs (position rs h)) h ≡ true
unfolding position
position-matches [] h l = absurd (omega arith)
position-matches (r ∷ rs) h l =
    split (matches r h)
    (λ e. ap (λ (k : ℕ). matches (rule_at (r ∷ rs) k) h) (position-hit r rs h e) ∙ e)
    (λ e.
    ap (λ (k : ℕ). matches (rule_at (r ∷ rs) k) h) (position-miss r rs h e)
    ∙ position-matches rs h (omega (arith, position-miss r rs h e)))

-- no rule before it does
position-before : (rs : List Rule) (h : ℕ) → NoneBefore rs h (position rs h)
unfolding position
position-before [] h j l = absurd (omega arith)
position-before (r ∷ rs) h zero l = split (matches r h) (λ e. absurd (omega (arith, position-hit r rs h e))) (λ e. e)
position-before (r ∷ rs) h (suc j) l =
    split (matches r h) (λ e. absurd (omega (arith, position-hit r rs h e)))
    (λ e. position-before rs h j (omega (arith, position-miss r rs h e)))

-- A rule that is hit stands at the position of the first match: so a header hits one rule only.
pub hits-position : (rs : List Rule) (h i : ℕ) → Hits rs h i → position rs h ≡ i
hits-position [] h i x = absurd (omega (arith, x.within))
hits-position (r ∷ rs) h zero x = position-hit r rs h x.here
hits-position (r ∷ rs) h (suc i) x =
    position-miss r rs h (x.before 0 (omega arith))
    ∙ ap suc
    (hits-position rs h i (record { within = omega (arith, x.within); here = x.here; before = λ j l. x.before (suc j) (omega arith) }))

-- The other way round, the rule at the position of the first match is hit.
pub position-hits : (rs : List Rule) (h i : ℕ) → i < length rs → position rs h ≡ i → Hits rs h i
position-hits rs h i l e =
    record {
      within = l;
      here = ap (λ (k : ℕ). matches (rule_at rs k) h) (sym e) ∙ position-matches rs h (omega arith);
      before = λ j m. position-before rs h j (omega arith);
    }

-- Where no rule is hit the position is the end of the list, and the other way round.
pub misses-end : (rs : List Rule) (h : ℕ) → Misses rs h → position rs h ≡ length rs
misses-end rs h m =
    split (ltb (position rs h) (length rs))
    (λ y. absurd (true-false (position-matches rs h (inside-list rs h y)) (m (position rs h) (inside-list rs h y))))
    (λ n. end-of-list rs h n)

pub end-misses : (rs : List Rule) (h : ℕ) → position rs h ≡ length rs → Misses rs h
end-misses rs h e j l = position-before rs h j (omega arith)

-- ---- what the list answers there

decision-at : (rs : List Rule) (i d : ℕ) → i < length rs → get_or (map (λ (r : Rule). r.decision) rs) i d ≡ (rule_at rs i).decision
decision-at [] i d h = absurd (omega arith)
decision-at (r ∷ rs) zero d h = refl
decision-at (r ∷ rs) (suc i) d h = decision-at rs i d (omega arith)

-- the list answers what stands at the position, whatever a miss counts as
first-at : (rs : List Rule) (h i d : ℕ) → position rs h ≡ i → first rs h d ≡ get_or (map (λ (r : Rule). r.decision) rs) i d
first-at rs h i d e = answer-position rs h d ∙ ap (λ (k : ℕ). get_or (map (λ (x : Rule). x.decision) rs) k d) e

first-there : (rs : List Rule) (h i d : ℕ) → i < length rs → position rs h ≡ i → first rs h d ≡ (rule_at rs i).decision
first-there rs h i d l e = first-at rs h i d e ∙ decision-at rs i d l

first-end : (rs : List Rule) (h d : ℕ) → position rs h ≡ length rs → first rs h d ≡ d
first-end rs h d e =
    first-at rs h (length rs) d e
    ∙ get_or-eq_default (map (λ (x : Rule). x.decision) rs) d (omega (arith, length-map rs (λ (x : Rule). x.decision)))

-- The decision of the rule that is hit is what the list answers, whatever a miss counts as.
pub hits-first : (rs : List Rule) (h i d : ℕ) → Hits rs h i → first rs h d ≡ (rule_at rs i).decision
hits-first rs h i d x = first-there rs h i d x.within (hits-position rs h i x)

pub hits-answer : (rs : List Rule) (h i : ℕ) → Hits rs h i → answer rs h ≡ (rule_at rs i).decision
hits-answer rs h i x = hits-first rs h i no_match x

-- Where none is hit it is what a miss counts as.
pub misses-first : (rs : List Rule) (h d : ℕ) → Misses rs h → first rs h d ≡ d
misses-first rs h d m = first-end rs h d (misses-end rs h m)

-- ---- the reply

-- the reply by what the test says
tested : (rs : List Rule) (h : ℕ) (t : Bool) → ltb (position rs h) (length rs) ≡ t
    → first_hit rs h ≡ gives_if t (Gives ((position rs h + 1) ∷ answer rs h ∷ [])) (Gives [])
tested rs h t e = ap (λ (b : Bool). gives_if b (Gives ((position rs h + 1) ∷ answer rs h ∷ [])) (Gives [])) e

-- a rule that is hit is given by its number and its decision
pub hit-reply : (rs : List Rule) (h i d : ℕ) → Hits rs h i × ((rule_at rs i).decision ≡ d) → first_hit rs h ≡ Gives ((i + 1) ∷ d ∷ [])
hit-reply rs h i d x =
    let e = hits-position rs h i x.0 in
    tested rs h true (lt-ltb (position rs h) (length rs) (omega (arith, x.0.within)))
    ∙ ap₂ (λ (n a : ℕ). Gives ((n + 1) ∷ a ∷ [])) e (hits-answer rs h i x.0 ∙ x.1)

-- what is given by a number and a decision is the rule that is hit
pub reply-told : (rs : List Rule) (h n d : ℕ) → first_hit rs h ≡ Gives (n ∷ d ∷ [])
    → (i : ℕ) × (n ≡ i + 1) × Hits rs h i × ((rule_at rs i).decision ≡ d) × (answer rs h ≡ d)
reply-told rs h n d e =
    split (ltb (position rs h) (length rs))
    (λ y.
    let p = two-values (sym (tested rs h true y) ∙ e) in
    let l = inside-list rs h y in
    (position rs h, sym p.0, position-hits rs h (position rs h) l refl, sym (first-there rs h (position rs h) no_match l refl) ∙ p.1, p.1))
    (λ n. absurd (two_none (sym (sym (tested rs h false n) ∙ e))))

pub reply-hit : (rs : List Rule) (h i d : ℕ) → first_hit rs h ≡ Gives ((i + 1) ∷ d ∷ []) → Hits rs h i × ((rule_at rs i).decision ≡ d)
reply-hit rs h i d e =
    let t = reply-told rs h (i + 1) d e in
    let k : t.0 ≡ i = omega (arith, t.1) in
    (subst (Hits rs h) k t.2, ap (λ (j : ℕ). (rule_at rs j).decision) (sym k) ∙ t.3)

-- where none is hit nothing is given, and the other way round
pub miss-reply : (rs : List Rule) (h : ℕ) → Misses rs h → first_hit rs h ≡ Gives []
miss-reply rs h m = tested rs h false (le-ltb (position rs h) (length rs) (omega (arith, misses-end rs h m)))

pub reply-miss : (rs : List Rule) (h : ℕ) → first_hit rs h ≡ Gives [] → Misses rs h
reply-miss rs h e =
    split (ltb (position rs h) (length rs)) (λ y. absurd (two_none (sym (tested rs h true y) ∙ e)))
    (λ n. end-misses rs h (end-of-list rs h n))

-- The reply without the rule's number is the list's answer.
pub decided-answered : (w : ℕ) (rs : List Rule) (h : ℕ) → All (Valid w) rs → decided (first_hit rs h) ≡ answered (answer rs h)
decided-answered w rs h a =
    split (ltb (position rs h) (length rs))
    (λ y.
    let l = inside-list rs h y in
    let e = first-there rs h (position rs h) no_match l refl in
    let s = (valid-at w rs (position rs h) a l).decides in
    ap decided (tested rs h true y)
    ∙ sym (ap (λ (t : Bool). gives_if t (Gives []) (Gives (answer rs h ∷ []))) (ne_eqb (answer rs h) no_match (omega arith))))
    (λ n. ap decided (tested rs h false n) ∙ sym (ap answered (first-end rs h no_match (end-of-list rs h n))))
