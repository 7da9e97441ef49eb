-- Laws of lists: of rules that one list makes of another, of stores one after the other, and of the rules of ten slices.
use mathlib.Core.Path.{◌≡◌, refl, ap, ◌∙◌}
use mathlib.Core.List.{List, [], ◌∷◌, ◌++◌, flat_map}
use Prim.Native.Nat.{ℕ, zero, suc, ◌+◌, ◌*◌, ◌-◌, ◌≤◌, ◌<◌}
use native.Mathlib.Omega.{arith}
use native.Mathlib.Nat.{add-mul, mul-le-mul_right}
use lib.ListN.{length, length-append, set}
use lib.Seq.{sets}
use Rattle.rules.specs.Lists.{All}
use Rattle.rules.proofs.EntryLaws.{all_append}
use Rattle.five_fields.specs.Slices.{Slices, rule_at, rules_from}
use Rattle.five_fields.specs.FiveFieldRule.{FiveFieldRule}

module _ {A B : Type 0} (f : A → List B) where
  pub flat-cons : (x : A) (xs : List A) → flat_map f (x ∷ xs) ≡ f x ++ flat_map f xs
  unfolding flat_map
  flat-cons x xs = refl

  pub all-flat : (P : A → Type 0) (Q : B → Type 0) → ((x : A) → P x → All Q (f x)) → (xs : List A) → All P xs → All Q (flat_map f xs)
  unfolding flat_map
  all-flat P Q g [] a = tt
  all-flat P Q g (x ∷ xs) a = all_append Q (f x) (flat_map f xs) (g x a.0) (all-flat P Q g xs a.1)

  -- each part as long as the others
  pub flat-length : (n : ℕ) → ((x : A) → length (f x) ≡ n) → (xs : List A) → length (flat_map f xs) ≡ length xs * n
  unfolding flat_map
  flat-length n g [] = omega arith
  flat-length n g (x ∷ xs) = length-append (f x) (flat_map f xs) ∙ omega (arith, g x, flat-length n g xs, add-mul 1 (length xs) n)

  -- each part at most so long
  pub flat-most : (P : A → Type 0) (n : ℕ) → ((x : A) → P x → length (f x) ≤ n) → (xs : List A) → All P xs → length (flat_map f xs) ≤ length xs * n
  unfolding flat_map
  flat-most P n g [] a = omega arith
  flat-most P n g (x ∷ xs) a = omega (arith, length-append (f x) (flat_map f xs), g x a.0, flat-most P n g xs a.1, add-mul 1 (length xs) n)

-- ---- rows of n

-- a row before the last one ends in time, and the next one starts where it ends
pub row_within : (i m n : ℕ) → i < m → i * n + n ≤ m * n
row_within i m n h = let l : suc i * n ≤ m * n = mul-le-mul_right n h in omega (arith, l, add-mul 1 i n)

pub row_next : (i n : ℕ) → (i + 1) * n ≡ i * n + n
row_next i n = omega (arith, add-mul i 1 n)

-- ---- stores one after the other

pub sets-append : {A : Type 0} (l : List A) (i : ℕ) (xs ys : List A) → sets l i (xs ++ ys) ≡ sets (sets l i xs) (i + length xs) ys
sets-append l i [] ys = ap (λ (k : ℕ). sets l k ys) (let e : i ≡ i + 0 = omega arith in e)
sets-append l i (x ∷ xs) ys = sets-append (set l i x) (suc i) xs ys ∙ ap (λ (k : ℕ). sets (sets (set l i x) (suc i) xs) k ys) (let e : suc i + length xs ≡ i + suc (length xs) = omega arith in e)

-- ---- the rules of ten slices

-- the first of the rules that are left, and the others
pub rules-next : (s : Slices) (i n : ℕ) → i < n → rules_from s i (n - i) ≡ rule_at s i ∷ rules_from s (i + 1) (n - (i + 1))
unfolding rules_from
rules-next s i n h =
    ap (rules_from s i) (let e : n - i ≡ suc (n - (i + 1)) = omega arith in e)
    ∙ ap (λ (k : ℕ). rule_at s i ∷ rules_from s k (n - (i + 1))) (let e : suc i ≡ i + 1 = omega arith in e)

pub rules-none : (s : Slices) (i n : ℕ) → n ≤ i → rules_from s i (n - i) ≡ []
unfolding rules_from
rules-none s i n h = ap (rules_from s i) (let e : n - i ≡ 0 = omega arith in e)

pub rules-count : (s : Slices) (i n : ℕ) → length (rules_from s i n) ≡ n
unfolding rules_from
rules-count s i zero = refl
rules-count s i (suc n) = ap suc (rules-count s (suc i) n)

-- what holds of each rule holds of the one at a position
pub rules-at : (P : FiveFieldRule → Type 0) (s : Slices) (i n : ℕ) → All P (rules_from s i n) → (k : ℕ) → i ≤ k → k < i + n → P (rule_at s k)
unfolding rules_from
rules-at P s i zero a k l h = absurd (omega arith)
rules-at P s i (suc n) a k l h = go (k - i) refl (λ q. rules-at P s (suc i) n a.1 k q (omega arith))
  where
    go : (m : ℕ) → k - i ≡ m → (suc i ≤ k → P (rule_at s k)) → P (rule_at s k)
    go zero e later = let f : k ≡ i = omega arith in rw f a.0
    go (suc m) e later = later (omega arith)
