-- Laws of numbers written in decimal.
use mathlib.Core.Path.{◌≡◌, refl, sym, ap, ◌∙◌}
use mathlib.Core.List.{List, [], ◌∷◌, ◌++◌, append-nil, append_assoc}
use Prim.Native.Nat.{ℕ, zero, suc, ◌+◌, ◌-◌, ◌*◌, ◌/◌, ◌%◌, ◌^◌, ◌≤◌, ◌<◌}
use native.Mathlib.Nat.{lt_of_lt_of_le, pow-suc}
use native.Mathlib.Omega.{arith}
use borrow.Author.Tests.{leb-true}
use lib.Dec.{eqb}
use lib.ListN.{length, get_or, take, drop, set, length-append, drop_of_length-le}
use lib.Seq.{set_split, drop_at, length-take-le}
use Rattle.words.specs.declared.Word.{Word}
use Rattle.words.specs.Halves.{num, limit}
use Rattle.words.proofs.WordLaws.{num-lt}
use Rattle.words.proofs.Tests.{split, eqb_yes, no_eqb}
use Rattle.text.specs.Decimal.{last_digit, digits_within, decimal}

-- ---- the digits one by one

none_left : (k : ℕ) → digits_within k 0 ≡ []
unfolding digits_within
none_left zero = refl
none_left (suc k) = refl

-- looking at more digits than a number has finds no more
enough : (j k n : ℕ) → n ≤ j → n ≤ k → digits_within j n ≡ digits_within k n
unfolding digits_within
enough zero k zero p q = sym (none_left k)
enough zero k (suc n) p q = absurd (omega arith)
enough (suc j) k zero p q = sym (none_left k)
enough (suc j) zero (suc n) p q = absurd (omega arith)
enough (suc j) (suc k) (suc n) p q =
    ap (λ (l : List ℕ). l ++ (last_digit (suc n) ∷ [])) (enough j k (suc n / 10) (omega arith) (omega arith))

all_digits : (k n : ℕ) → (n ≡ 0 → ⊥) → n ≤ k → digits_within k n ≡ decimal n
unfolding digits_within decimal
all_digits k zero z h = absurd (z refl)
all_digits zero (suc n) z h = absurd (omega arith)
all_digits (suc k) (suc n) z h =
    ap (λ (l : List ℕ). l ++ (last_digit (suc n) ∷ [])) (enough k (suc n) (suc n / 10) (omega arith) (omega arith))

one-digit : (n : ℕ) → n / 10 ≡ 0 → decimal n ≡ last_digit n ∷ []
unfolding decimal
one-digit n e = ap (λ (m : ℕ). digits_within n m ++ (last_digit n ∷ [])) e ∙ ap (λ (l : List ℕ). l ++ (last_digit n ∷ [])) (none_left n)

more-digits : (n : ℕ) → (n / 10 ≡ 0 → ⊥) → decimal n ≡ decimal (n / 10) ++ (last_digit n ∷ [])
unfolding decimal
more-digits n z = ap (λ (l : List ℕ). l ++ (last_digit n ∷ [])) (all_digits n (n / 10) z (omega arith))

-- ---- no zero leads

starts : (xs ys : List ℕ) → 48 < get_or xs 0 0 → 48 < get_or (xs ++ ys) 0 0
starts [] ys h = absurd (omega arith)
starts (x ∷ xs) ys h = h

first_some : (k n : ℕ) → n ≤ k → (n ≡ 0 → ⊥) → 48 < get_or (digits_within k n) 0 0
unfolding digits_within
first_some zero n h z = absurd (z (omega arith))
first_some (suc k) zero h z = absurd (z refl)
first_some (suc k) (suc n) h z =
    split (eqb (suc n / 10) 0)
    (λ t.
    let e : suc n / 10 ≡ 0 = eqb_yes _ _ t in
    let l : digits_within k (suc n / 10) ≡ [] = ap (digits_within k) e ∙ none_left k in
    rw l (omega arith))
    (λ t. starts (digits_within k (suc n / 10)) (last_digit (suc n) ∷ []) (first_some k (suc n / 10) (omega arith) (no_eqb _ _ t)))

-- The first byte of a number in decimal is no `0`, but for the number 0.
pub no-zero-leads : (n : ℕ) → (n ≡ 0 → ⊥) → 48 < get_or (decimal n) 0 0
no-zero-leads n z = rw (all_digits n n z (omega arith)) at (first_some n n (omega arith) z)

-- ---- how many there are

limit-digits : limit ≤ 10 ^ 39
unfolding limit
limit-digits = leb-true limit (10 ^ 39) refl

-- 39 digits hold every word
pub word-digits : (x : Word) → x.low < 2 ^ 64 → x.high < 2 ^ 64 → num x < 10 ^ 39
word-digits x p q = lt_of_lt_of_le (num-lt x p q) limit-digits

module _ (n k : ℕ) (h : n < 10 ^ k) where
  pub tenth-digits : 1 ≤ k → n / 10 < 10 ^ (k - 1)
  tenth-digits p =
      let e : 10 ^ k ≡ 10 ^ (k - 1) * 10 = ap (λ (j : ℕ). 10 ^ j) (let f : k ≡ suc (k - 1) = omega arith in f) ∙ pow-suc 10 (k - 1) in
      omega arith

  pub some-digit : (n ≡ 0 → ⊥) → 1 ≤ k
  some-digit z = go k h
    where
      go : (k : ℕ) → n < 10 ^ k → 1 ≤ k
      go zero h = absurd (z (omega arith))
      go (suc k) h = omega arith

few-digits : (j k n : ℕ) → n < 10 ^ j → length (digits_within k n) ≤ j
unfolding digits_within
few-digits j zero n h = omega arith
few-digits j (suc k) zero h = omega arith
few-digits zero (suc k) (suc n) h = absurd (omega arith)
few-digits (suc j) (suc k) (suc n) h =
    let s : suc n / 10 < 10 ^ j = omega (arith, pow-suc 10 j) in
    omega (arith, length-append (digits_within k (suc n / 10)) (last_digit (suc n) ∷ []), few-digits j k (suc n / 10) s)

-- A word in decimal takes 1 to 39 bytes.
pub decimal-size : (x : Word) → x.low < 2 ^ 64 → x.high < 2 ^ 64 → (1 ≤ length (decimal (num x))) × (length (decimal (num x)) ≤ 39)
unfolding decimal
decimal-size x p q =
    let n : ℕ = num x in
    let l : length (decimal n) ≡ length (digits_within n (n / 10)) + 1 = length-append (digits_within n (n / 10)) (last_digit n ∷ []) in
    let f : length (digits_within n (n / 10)) ≤ 38 = few-digits 38 n (n / 10) (tenth-digits n 39 (word-digits x p q) (omega arith)) in
    (omega arith, omega arith)

-- ---- digits put before those that stand at the end of an array

pub none-put : (n : ℕ) (s : List ℕ) → length s ≡ 39 → decimal n ≡ decimal n ++ drop 39 s
none-put n s e = sym (ap (λ (l : List ℕ). decimal n ++ l) (drop_of_length-le s {i = 39} (omega arith)) ∙ append-nil (decimal n))

module _ (s : List ℕ) (n k d : ℕ) (h : k ≤ length s) (p : 1 ≤ k) (e : d ≡ n % 10) where
  one-put : drop (k - 1) (set s (k - 1) (48 + d)) ≡ (last_digit n ∷ []) ++ drop k s
  one-put =
      ap (drop (k - 1)) (set_split s (k - 1) (48 + d) (omega arith))
      ∙ drop_at (take (k - 1) s) ((48 + d) ∷ drop (suc (k - 1)) s) (k - 1) (length-take-le (k - 1) s (omega arith))
      ∙ ap (λ (x : ℕ). (48 + x) ∷ drop (suc (k - 1)) s) e
      ∙ ap (λ (j : ℕ). last_digit n ∷ drop j s) (let f : suc (k - 1) ≡ k = omega arith in f)

  pub first-put : n / 10 ≡ 0 → decimal n ++ drop k s ≡ drop (k - 1) (set s (k - 1) (48 + d))
  first-put z = ap (λ (l : List ℕ). l ++ drop k s) (one-digit n z) ∙ sym one-put

  pub next-put : (m : ℕ) → m ≡ n / 10 → (m ≡ 0 → ⊥) → decimal n ++ drop k s ≡ decimal m ++ drop (k - 1) (set s (k - 1) (48 + d))
  next-put m f z =
      ap (λ (l : List ℕ). l ++ drop k s) (more-digits n (λ y. z (f ∙ y)))
      ∙ append_assoc (decimal (n / 10)) (last_digit n ∷ []) (drop k s)
      ∙ ap (λ (j : ℕ). decimal j ++ ((last_digit n ∷ []) ++ drop k s)) (sym f)
      ∙ ap (λ (l : List ℕ). decimal m ++ l) (sym one-put)
