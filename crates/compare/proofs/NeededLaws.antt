-- Laws of needed rules: what the search for the lowest header finds, and which headers can show that a rule is needed.
use mathlib.Core.Path.{◌≡◌, refl, sym, ap, ◌∙◌, subst}
use mathlib.Core.Logic.{◌≢◌, ◌↔◌, ◌⊎◌, inl, inr, ⊎_elim}
use mathlib.Core.List.{List, [], ◌∷◌}
use mathlib.Core.Bool.{Bool, true, false, not, cond}
use Prim.Native.Nat.{ℕ, zero, suc, ◌+◌, ◌-◌, ◌^◌, ◌≤◌, ◌<◌}
use native.Mathlib.Omega.{arith}
use lib.Dec.{eqb, ltb}
use lib.ListN.{length}
use borrow.Author.Tests.{eqb-true, eqb-false, eq-eqb, ne_eqb, ltb-true, ltb-false, not-false}
use Rattle.words.proofs.Tests.{split, not-true, never_true}
use Rattle.rules.specs.Rule.{Rule}
use Rattle.rules.specs.Rules.{matches, no_match, answer}
use Rattle.rules.specs.Slices.{rule_at}
use Rattle.rules.specs.Found.{Hits}
use Rattle.rules.specs.Lists.{except}
use Rattle.compare.specs.Needed.{changes, lowest_from, lowest_change, DoesNothing, LowestChange}
use Rattle.compare.proofs.ExceptLaws.{except-past, unmatched-first, earlier-first, change-later}

-- ---- the first number for which a test holds

-- The test holds for none of the numbers from s on and below e.
abbrev pub None : (f : ℕ → Bool) → (s e : ℕ) → Type 0
None f s e = (x : ℕ) → s ≤ x → x < e → f x ≡ false

-- Number h is the first of n numbers from s on for which it holds.
pub record FirstFrom (f : ℕ → Bool) (n s h : ℕ) : Type 0 where
  pub from : s ≤ h
  pub inside : h < s + n
  pub holds : f h ≡ true
  pub none : None f s h

-- a list of one number is not empty, and has one first number
one_none : {h : ℕ} → ◌≡◌ {A = List ℕ} (h ∷ []) [] → ⊥
one_none e = let z : ◌≡◌ {A = ℕ} 0 1 = cc in omega arith

pub one-one : {g h : ℕ} → ◌≡◌ {A = List ℕ} (g ∷ []) (h ∷ []) → g ≡ h
one-one e = cc

module _ (f : ℕ → Bool) where
  -- the search by what the test says of its first number
  lowest_step : (n s : ℕ) (t : Bool) → f s ≡ t → lowest_from f (suc n) s ≡ cond t (s ∷ []) (lowest_from f n (suc s))
  unfolding lowest_from
  lowest_step n s t e = ap (λ (b : Bool). cond b (s ∷ []) (lowest_from f n (suc s))) e

  -- The search finds the first number for which the test holds.
  pub lowest-found : (n s h : ℕ) → s ≤ h → h < s + n → f h ≡ true → ((x : ℕ) → s ≤ x → x < h → f x ≡ false) → lowest_from f n s ≡ h ∷ []
  lowest-found zero s h l m y a = absurd (omega arith)
  lowest-found (suc n) s h l m y a =
      split (eqb s h)
      (λ e. let q = eqb-true s h e in lowest_step n s true (ap f q ∙ y) ∙ ap (λ (x : ℕ). x ∷ []) q)
      (λ e.
      let q : s ≢ h = eqb-false s h e in
      lowest_step n s false (a s (omega arith) (omega arith))
      ∙ lowest-found n (suc s) h (omega arith) (omega arith) y (λ x u v. a x (omega arith) v))

  -- Where it holds for none, it finds none.
  pub lowest-none : (n s : ℕ) → ((x : ℕ) → s ≤ x → x < s + n → f x ≡ false) → lowest_from f n s ≡ []
  unfolding lowest_from
  lowest-none zero s a = refl
  lowest-none (suc n) s a =
      lowest_step n s false (a s (omega arith) (omega arith)) ∙ lowest-none n (suc s) (λ x u v. a x (omega arith) (omega arith))

  -- one number more in front
  none_more : (s e : ℕ) → f s ≡ false → None f (suc s) e → None f s e
  none_more s e m a x u v =
      split (eqb x s) (λ t. ap f (eqb-true x s t) ∙ m) (λ t. let d : x ≢ s = eqb-false x s t in a x (omega arith) v)

  -- of n numbers there is a first one, or none
  pub first_or_none : (n s : ℕ) → None f s (s + n) ⊎ ((h : ℕ) × FirstFrom f n s h)
  first_or_none zero s = inl (λ x u v. absurd (omega arith))
  first_or_none (suc n) s =
      split (f s)
      (λ y. inr (s, record { from = omega arith; inside = omega arith; holds = y; none = λ x u v. absurd (omega arith) }))
      (λ m. go m (first_or_none n (suc s)))
    where
      go : f s ≡ false → None f (suc s) (suc s + n) ⊎ ((h : ℕ) × FirstFrom f n (suc s) h)
          → None f s (s + suc n) ⊎ ((h : ℕ) × FirstFrom f (suc n) s h)
      go m (inl a) = inl (none_more s (s + suc n) m (λ x u v. a x u (omega arith)))
      go m (inr t) =
          let p = t.1 in
          inr (t.0, record { from = omega (arith, p.from); inside = omega (arith, p.inside); holds = p.holds; none = none_more s t.0 m p.none })

  pub found : (n s h : ℕ) → FirstFrom f n s h → lowest_from f n s ≡ h ∷ []
  found n s h p = lowest-found n s h p.from p.inside p.holds p.none

  -- what is found says what there is
  pub none_told : (n s : ℕ) → lowest_from f n s ≡ [] → None f s (s + n)
  none_told n s e = ⊎_elim (λ a. a) (λ t. absurd (one_none (sym (found n s t.0 t.1) ∙ e))) (first_or_none n s)

  pub found-told : (n s h : ℕ) → lowest_from f n s ≡ h ∷ [] → FirstFrom f n s h
  found-told n s h e =
      ⊎_elim (λ a. absurd (one_none (sym e ∙ lowest-none n s a)))
      (λ t. subst (FirstFrom f n s) (one-one (sym (found n s t.0 t.1) ∙ e)) t.1) (first_or_none n s)

-- ---- whether an answer changes

module _ (rs : List Rule) (k h : ℕ) where
  changes-no : changes rs k h ≡ false → answer (except k rs) h ≡ answer rs h
  unfolding changes
  changes-no e = sym (eqb-true _ _ (not-false _ e))

  no-changes : answer (except k rs) h ≡ answer rs h → changes rs k h ≡ false
  unfolding changes
  no-changes e = ap not (eq-eqb _ _ (sym e))

  changes-yes : changes rs k h ≡ true → answer (except k rs) h ≢ answer rs h
  unfolding changes
  changes-yes e q = eqb-false _ _ (not-true _ e) (sym q)

  yes-changes : answer (except k rs) h ≢ answer rs h → changes rs k h ≡ true
  unfolding changes
  yes-changes n = ap not (ne_eqb _ _ (λ e. n (sym e)))

-- ---- the lowest header at which a rule is needed

module _ (w : ℕ) (rs : List Rule) (k : ℕ) where
  -- There is none exactly where the rule does nothing.
  pub nothing-exactly : (lowest_change w rs k ≡ []) ↔ DoesNothing w rs k
  unfolding lowest_change
  nothing-exactly = (
    λ e h l. changes-no rs k h (none_told (changes rs k) (2 ^ w) 0 e h (omega arith) (omega arith)),
    λ d. lowest-none (changes rs k) (2 ^ w) 0 (λ x u v. no-changes rs k x (d x (omega arith))),
  )

  -- It is h exactly where the answer to h changes and that to no lower header does.
  pub lowest-exactly : (h : ℕ) → (lowest_change w rs k ≡ h ∷ []) ↔ LowestChange w rs k h
  unfolding lowest_change
  lowest-exactly h = (
    λ e.
        let p = found-told (changes rs k) (2 ^ w) 0 h e in
        record {
          below = omega (arith, p.inside);
          differ = changes-yes rs k h p.holds;
          lowest = λ x l. changes-no rs k x (p.none x (omega arith) l);
        },
    λ c.
        lowest-found (changes rs k) (2 ^ w) 0 h (omega arith) (omega (arith, c.below)) (yes-changes rs k h c.differ)
        (λ x u v. no-changes rs k x (c.lowest x v)),
  )

  -- There is none or one.
  pub none-or-one : (lowest_change w rs k ≡ []) ⊎ ((h : ℕ) × (lowest_change w rs k ≡ h ∷ []))
  unfolding lowest_change
  none-or-one =
      ⊎_elim (λ a. inl (lowest-none (changes rs k) (2 ^ w) 0 a))
      (λ t. inr (t.0, found (changes rs k) (2 ^ w) 0 t.0 t.1)) (first_or_none (changes rs k) (2 ^ w) 0)

  -- No two headers are the lowest.
  pub lowest-once : (g h : ℕ) → LowestChange w rs k g → LowestChange w rs k h → g ≡ h
  lowest-once g h a b = one-one (sym ((lowest-exactly g).1 a) ∙ (lowest-exactly h).1 b)

  -- Where the answer to some header of the width changes there is a lowest such header.
  pub change-lowest : (h : ℕ) → h < 2 ^ w → answer (except k rs) h ≢ answer rs h → (x : ℕ) × LowestChange w rs k x
  change-lowest h l n =
      ⊎_elim (λ e. absurd (n (nothing-exactly.0 e h l))) (λ t. (t.0, (lowest-exactly t.0).0 t.1)) none-or-one

  -- Past the end there is no rule to take out.
  pub past-nothing : length rs ≤ k → lowest_change w rs k ≡ []
  past-nothing l = nothing-exactly.1 (λ h m. ap (λ (xs : List Rule). answer xs h) (except-past rs k l))

-- ---- at which headers

-- A rule that does not match a header can be taken out: the header keeps its answer.
pub unmatched-same : (rs : List Rule) (k h : ℕ) → matches (rule_at rs k) h ≡ false → answer (except k rs) h ≡ answer rs h
unmatched-same rs k h e = unmatched-first rs k h no_match e

-- A header at which the rule at position k is needed hits that rule: it matches the rule, and no rule before it.
pub change-first : (rs : List Rule) (k h : ℕ) → answer (except k rs) h ≢ answer rs h → Hits rs h k
change-first rs k h n =
    record {
      within =
          split (ltb k (length rs)) (λ y. ltb-true k (length rs) y)
          (λ m. absurd (n (ap (λ (xs : List Rule). answer xs h) (except-past rs k (ltb-false k (length rs) m)))));
      here = split (matches (rule_at rs k) h) (λ y. y) (λ m. absurd (n (unmatched-same rs k h m)));
      before = λ j l. never_true (λ y. n (earlier-first rs j k h no_match l y));
    }

-- A rule that is needed at a header stays needed there when a rule before it is taken out; it then stands one position earlier.
pub change-kept : (rs : List Rule) (j k h : ℕ) → j < k → answer (except k rs) h ≢ answer rs h
    → answer (except (k - 1) (except j rs)) h ≢ answer (except j rs) h
change-kept rs j k h l n =
    change-later rs j (k - 1) h no_match (omega arith)
    (subst (λ (i : ℕ). answer (except i rs) h ≢ answer rs h) (omega arith) n)
