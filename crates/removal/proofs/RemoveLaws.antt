-- Laws of a list without one of its entries, and of a rule that is taken out of three slices.
use mathlib.Core.Path.{◌≡◌, refl, sym, ap, ap₂, ◌∙◌, subst}
use mathlib.Core.Logic.{◌↔◌}
use mathlib.Core.List.{List, [], ◌∷◌, ◌++◌, map}
use mathlib.Core.Bool.{Bool, true}
use Prim.Native.Nat.{ℕ, zero, suc, ◌+◌, ◌-◌, ◌≤◌, ◌<◌}
use native.Mathlib.Omega.{arith}
use native.Mathlib.Numerals.{add-one}
use lib.ListN.{length, get_or, take, drop, set, length-append, length-drop, length-map}
use lib.Seq.{take-nil, get_or-drop, take-suc, take-suc-set, drop-set-lt, drop-drop, set_split, length-take-le, take_at, drop-append-add}
use Rattle.std.proofs.lemmas.Bool.Decides.{nat_tests}
use Rattle.words.proofs.Tests.{split}
use Rattle.words.proofs.SliceLaws.{Machine, halves-length}
use Rattle.rules.specs.declared.Rule.{Rule as Held}
use Rattle.rules.specs.Rule.{Rule, rule_of}
use Rattle.rules.specs.Lists.{All, except}
use Rattle.rules.specs.Slices.{rules_of, care_of, value_of, decision_of, cares_of, values_of, decisions_of, rule_at, blank, Lent, Placed}
use Rattle.removal.specs.Removal.{Shifted, taken_out, removable, Removed}
use Rattle.rules.proofs.ZipLaws.{ap₃}
use Rattle.rules.proofs.SliceLaws.{Kept, kept-lent, rules-length, rules-columns, rules-care, rules-value, rules-decision, choosing-yes, choosing-no, placed-rules, placed-kept}

-- ---- a list without an entry

module _ {A : Type 0} where
  pub except-length : (k : ℕ) (xs : List A) → k < length xs → suc (length (except k xs)) ≡ length xs
  except-length k [] h = absurd (omega arith)
  except-length zero (x ∷ xs) h = refl
  except-length (suc k) (x ∷ xs) h = ap suc (except-length k xs (omega arith))

  pub except-all : (P : A → Type 0) (k : ℕ) (xs : List A) → All P xs → All P (except k xs)
  except-all P k [] a = tt
  except-all P zero (x ∷ xs) a = a.1
  except-all P (suc k) (x ∷ xs) a = (a.0, except-all P k xs a.1)

  -- entries before k stand where they stood, the others have moved down by one
  pub before_at : (k i : ℕ) (xs : List A) (d : A) → i < k → get_or (except k xs) i d ≡ get_or xs i d
  before_at k i [] d h = refl
  before_at zero i (x ∷ xs) d h = absurd (omega arith)
  before_at (suc k) zero (x ∷ xs) d h = refl
  before_at (suc k) (suc i) (x ∷ xs) d h = before_at k i xs d (omega arith)

  pub except-at : (k i : ℕ) (xs : List A) (d : A) → k ≤ i → get_or (except k xs) i d ≡ get_or xs (suc i) d
  except-at k i [] d h = refl
  except-at zero i (x ∷ xs) d h = refl
  except-at (suc k) zero (x ∷ xs) d h = absurd (omega arith)
  except-at (suc k) (suc i) (x ∷ xs) d h = except-at k i xs d (omega arith)

  pub before-except : (n k : ℕ) (xs : List A) → n ≤ k → take n (except k xs) ≡ take n xs
  before-except zero k xs h = refl
  before-except (suc n) k [] h = refl
  before-except (suc n) zero (x ∷ xs) h = absurd (omega arith)
  before-except (suc n) (suc k) (x ∷ xs) h = ap (λ (l : List A). x ∷ l) (before-except n k xs (omega arith))

  pub except-before : (k : ℕ) (xs : List A) → take k (except k xs) ≡ take k xs
  except-before k xs = before-except k k xs (omega arith)

  pub take-except : (n k : ℕ) (xs : List A) → k ≤ n → take n (except k xs) ≡ except k (take (suc n) xs)
  take-except n k [] h = take-nil n
  take-except n zero (x ∷ xs) h = refl
  take-except zero (suc k) (x ∷ xs) h = absurd (omega arith)
  take-except (suc n) (suc k) (x ∷ xs) h = ap (λ (l : List A). x ∷ l) (take-except n k xs (omega arith))

  pub drop-except : (n k i : ℕ) (xs : List A) → k ≡ n + i → drop n (except k xs) ≡ except i (drop n xs)
  drop-except zero k i xs e = ap (λ (m : ℕ). except m xs) (omega arith)
  drop-except (suc n) k i [] e = refl
  drop-except (suc n) zero i (x ∷ xs) e = absurd (omega arith)
  drop-except (suc n) (suc k) i (x ∷ xs) e = drop-except n k i xs (omega arith)

-- ---- rules that move down

pub shifted_none : (l : List Rule) (i : ℕ) → Shifted l l i i
shifted_none l i = record { done = sym (except-before i l); rest = refl }

shifted-more : (old l : List Rule) (i k : ℕ) → i ≤ k → k + 1 < length l → length l ≡ length old → Shifted old l i k
    → Shifted old (set l k (rule_at l (k + 1))) i (k + 1)
shifted-more old l i k h n e s =
    record {
      done =
          ap (λ (m : ℕ). take m (set l k (rule_at l (k + 1)))) (add-one k)
          ∙ take-suc-set l k (rule_at l (k + 1)) (omega arith)
          ∙ ap₂ (λ (x : List Rule) (r : Rule). x ++ (r ∷ [])) s.done (next ∙ sym (except-at i k old blank h))
          ∙ sym (take-suc (except i old) k blank (omega (arith, except-length i old (omega arith))))
          ∙ ap (λ (m : ℕ). take m (except i old)) (sym (add-one k));
      rest =
          drop-set-lt (k + 1) l k _ (omega arith) ∙ sym (drop-drop 1 k l) ∙ ap (drop 1) s.rest ∙ drop-drop 1 k old;
    }
  where
    next : rule_at l (k + 1) ≡ rule_at old (suc k)
    next = sym (get_or-drop k l 1 _) ∙ ap (λ (x : List Rule). get_or x 1 blank) s.rest ∙ get_or-drop k old 1 _ ∙ ap (rule_at old) (add-one k)

-- the same of a list and a rule that are given by equations
pub shifted-put : (old l new : List Rule) (r : Rule) (i k : ℕ) → i ≤ k → k + 1 < length l → length l ≡ length old → Shifted old l i k
    → r ≡ rule_at l (k + 1) → new ≡ set l k r → Shifted old new i (k + 1)
shifted-put old l new r i k h n e s q d =
    subst (λ (x : List Rule). Shifted old x i (k + 1)) (sym (d ∙ ap (set l k) q)) (shifted-more old l i k h n e s)

-- ---- the rules after one was taken out

module _ (i count : ℕ) (rs : List Rule) (some : i < count) (fits : count ≤ length rs) where
  cut-count : suc (count - 1) ≡ count
  cut-count = omega arith

  front_length : length (except i (take count rs)) ≡ count - 1
  front_length = omega (arith, except-length i (take count rs) (omega (arith, length-take-le count rs fits)), length-take-le count rs fits)

  -- the rules that are left of the first `count`
  pub taken-out-front : take (count - 1) (taken_out i count rs) ≡ except i (take count rs)
  unfolding taken_out
  taken-out-front = take_at (except i (take count rs)) _ (count - 1) front_length

  -- the later rules are as they were
  pub taken-out-back : drop count (taken_out i count rs) ≡ drop count rs
  unfolding taken_out
  taken-out-back =
      let e : count ≡ length (except i (take count rs)) + 1 = omega (arith, front_length) in
      ap (λ (n : ℕ). drop n (except i (take count rs) ++ (blank ∷ drop count rs))) e
      ∙ drop-append-add (except i (take count rs)) (blank ∷ drop count rs) 1

  pub taken-out-length : length (taken_out i count rs) ≡ length rs
  unfolding taken_out
  taken-out-length = omega (arith, length-append (except i (take count rs)) (blank ∷ drop count rs), front_length, length-drop count rs)

  -- the rules that are left, by the whole list without rule i
  pub front-except : except i (take count rs) ≡ take (count - 1) (except i rs)
  front-except = ap (λ (n : ℕ). except i (take n rs)) (sym cut-count) ∙ sym (take-except (count - 1) i rs (omega arith))

  -- the rules have moved down, and the last of the first `count` places is cleared
  pub shifted-taken : (l new : List Rule) → length l ≡ length rs → Shifted rs l i (count - 1) → new ≡ set l (count - 1) blank → new ≡ taken_out i count rs
  unfolding taken_out
  shifted-taken l new e s d =
      d ∙ set_split l (count - 1) blank (omega arith)
      ∙ ap₂ (λ (x y : List Rule). x ++ (blank ∷ y)) (s.done ∙ sym front-except) later
    where
      later : drop (suc (count - 1)) l ≡ drop count rs
      later =
          ap (λ (n : ℕ). drop n l) (sym (add-one (count - 1))) ∙ sym (drop-drop 1 (count - 1) l) ∙ ap (drop 1) s.rest
          ∙ drop-drop 1 (count - 1) rs ∙ ap (λ (n : ℕ). drop n rs) (add-one (count - 1) ∙ cut-count)

-- ---- whether a rule can be taken out

module _ (cs vs ds : List ℕ) (i count : ℕ) where
  -- Rule i can be taken out of the first `count` exactly when the slices belong together, it is one of them, and there are so many.
  pub removable-exactly : (removable cs vs ds i count ≡ true) ↔ (Lent cs vs ds × (i < count) × (count ≤ length ds))
  unfolding removable
  removable-exactly = ((λ e. grind (arith, nat_tests)), (λ p. grind (arith, nat_tests)))

-- ---- what three slices hold afterwards

module _ (cs vs ds : List ℕ) (i count : ℕ) where
  abbrev left : List Rule
  left = taken_out i count (rules_of cs vs ds)

  -- slices that hold the rules that are left
  removed-as : (cs' vs' ds' : List ℕ) → removable cs vs ds i count ≡ true → Lent cs' vs' ds' → Machine cs' → Machine vs'
      → rules_of cs' vs' ds' ≡ left → Removed cs vs ds i count cs' vs' ds'
  removed-as cs' vs' ds' e l mc mv r =
      record {
        cares = sym (choosing-yes e _ cs ∙ ap cares_of (sym r) ∙ rules-care cs' vs' ds' l mc);
        values = sym (choosing-yes e _ vs ∙ ap values_of (sym r) ∙ rules-value cs' vs' ds' l mv);
        decisions = sym (choosing-yes e _ ds ∙ ap decisions_of (sym r) ∙ rules-decision cs' vs' ds' l);
      }

  -- the rules have moved down, and the rule of zeros is put behind them
  pub removed-yes : (c v d c' v' d' : List ℕ) (t : Bool) (r : Held) → t ≡ removable cs vs ds i count → t ≡ true → Kept cs vs ds c v d
      → Shifted (rules_of cs vs ds) (rules_of c v d) i (count - 1) → rule_of r ≡ blank → Placed c v d (count - 1) r c' v' d' → Machine c' → Machine v'
      → Removed cs vs ds i count c' v' d'
  removed-yes c v d c' v' d' t r f g k s b p mc mv =
      let e : removable cs vs ds i count ≡ true = sym f ∙ g in
      let q = (removable-exactly cs vs ds i count).0 e in
      let l : Lent c v d = kept-lent cs vs ds c v d k q.0 in
      let m : length (rules_of cs vs ds) ≡ length ds = rules-length cs vs ds q.0 in
      let n : length (rules_of c v d) ≡ length (rules_of cs vs ds) = omega (arith, rules-length c v d l, k.decisions) in
      removed-as c' v' d' e (kept-lent c v d c' v' d' (placed-kept c v d (count - 1) r c' v' d' p) l) mc mv
      (shifted-taken i count (rules_of cs vs ds) q.1 (omega (arith, q.2)) (rules_of c v d) (rules_of c' v' d') n s
      (placed-rules c v d (count - 1) r c' v' d' p ∙ ap (set (rules_of c v d) (count - 1)) b))

  -- The rules of the slices afterwards, where the rule could be taken out.
  pub removed-rules : (cs' vs' ds' : List ℕ) → Lent cs vs ds → i < count → count ≤ length ds → Removed cs vs ds i count cs' vs' ds'
      → rules_of cs' vs' ds' ≡ taken_out i count (rules_of cs vs ds)
  removed-rules cs' vs' ds' l h k D =
      let e : removable cs vs ds i count ≡ true = (removable-exactly cs vs ds i count).1 (l, h, k) in
      ap₃ rules_of (D.cares ∙ choosing-yes e _ cs) (D.values ∙ choosing-yes e _ vs) (D.decisions ∙ choosing-yes e _ ds) ∙ rules-columns left

  -- The slices are as long as they were.
  pub removed-kept : (cs' vs' ds' : List ℕ) → Removed cs vs ds i count cs' vs' ds' → Kept cs vs ds cs' vs' ds'
  removed-kept cs' vs' ds' D =
      split (removable cs vs ds i count)
      (λ e.
      let p = (removable-exactly cs vs ds i count).0 e in
      let k : length (rules_of cs vs ds) ≡ length ds = rules-length cs vs ds p.0 in
      let n : length left ≡ length ds = taken-out-length i count (rules_of cs vs ds) p.1 (omega (arith, p.2)) ∙ k in
      record {
        cares = ap length (D.cares ∙ choosing-yes e _ cs) ∙ omega (arith, halves-length (map care_of left), length-map left care_of, p.0.decisions);
        values = ap length (D.values ∙ choosing-yes e _ vs) ∙ omega (arith, halves-length (map value_of left), length-map left value_of, p.0.decisions, p.0.values);
        decisions = ap length (D.decisions ∙ choosing-yes e _ ds) ∙ length-map left decision_of ∙ n;
      })
      (λ e.
      record {
        cares = ap length (D.cares ∙ choosing-no e _ cs);
        values = ap length (D.values ∙ choosing-no e _ vs);
        decisions = ap length (D.decisions ∙ choosing-no e _ ds);
      })
