-- Laws of numbers read from digits.
use mathlib.Core.Path.{◌≡◌, refl, sym, ap, ◌∙◌}
use mathlib.Core.List.{List, [], ◌∷◌}
use mathlib.Core.Bool.{Bool, true, false, ◌&&◌}
use Prim.Native.Nat.{ℕ, ◌+◌, ◌*◌, ◌≤◌, ◌<◌}
use native.Mathlib.Numerals.{add-one}
use lib.Dec.{ltb, eqb}
use lib.ListN.{length, get_or, take, drop, length-drop, drop_of_length-le}
use lib.Seq.{drop-cons, take_all}
use borrow.Author.Tests.{lt-ltb, le-ltb, ltb-true, ltb-false, eq-eqb, ne_eqb}
use native.Mathlib.Omega.{arith}
use Rattle.words.specs.Halves.{halves}
use Rattle.words.proofs.Tests.{true-and, and-off, and-on, split}
use Rattle.words.specs.declared.Word.{Word}
use lib.Pointwise.{pointwise, bytes_decides}
use Rattle.std.specs.Prelude.{Option, Some, None}
use Rattle.text.specs.Numbers.{digit_of, number_if, goes_on, number_of, marked}

-- ---- one digit after the other

module _ (limit base n i : ℕ) (bs : List ℕ) (h : i < length bs) where
  goes-turn : goes_on limit base n (drop i bs)
      ≡ number_if (ltb (digit_of (get_or bs i 0)) base && ltb (n * base + digit_of (get_or bs i 0)) limit)
      (goes_on limit base (n * base + digit_of (get_or bs i 0)) (drop (i + 1) bs)) None
  unfolding goes_on
  goes-turn =
      ap (goes_on limit base n) (drop-cons bs i 0 h)
      ∙ ap (λ (k : ℕ). number_if (ltb (digit_of (get_or bs i 0)) base && ltb (n * base + digit_of (get_or bs i 0)) limit)
      (goes_on limit base (n * base + digit_of (get_or bs i 0)) (drop k bs)) None) (sym (add-one i))

  goes_by : (t : Bool) → (ltb (digit_of (get_or bs i 0)) base && ltb (n * base + digit_of (get_or bs i 0)) limit) ≡ t
      → goes_on limit base n (drop i bs) ≡ number_if t (goes_on limit base (n * base + digit_of (get_or bs i 0)) (drop (i + 1) bs)) None
  goes_by t f = goes-turn ∙ ap (λ (b : Bool). number_if b (goes_on limit base (n * base + digit_of (get_or bs i 0)) (drop (i + 1) bs)) None) f

  pub no_digit : (digit_of (get_or bs i 0) < base → ⊥) → goes_on limit base n (drop i bs) ≡ None
  no_digit q = goes_by false (sym (and-off _ (le-ltb _ base (omega (arith, q)))))

  -- it is a digit: the number grows by it, where it stays below the limit
  module _ (d : ℕ) (e : d ≡ digit_of (get_or bs i 0)) (q : digit_of (get_or bs i 0) < base) where
    pub past-limit : (n * base + d < limit → ⊥) → goes_on limit base n (drop i bs) ≡ None
    past-limit r = goes_by false (sym (sym (le-ltb _ _ (omega (arith, r))) ∙ and-on (lt-ltb _ base q)))

    pub one_more : (m : ℕ) → m ≡ n * base + d → n * base + d < limit → goes_on limit base n (drop i bs) ≡ goes_on limit base m (drop (i + 1) bs)
    one_more m o r =
        let t : n * base + digit_of (get_or bs i 0) ≡ m = omega arith in
        goes_by true (true-and (lt-ltb _ base q) (lt-ltb _ _ (omega arith))) ∙ ap (λ (z : ℕ). goes_on limit base z (drop (i + 1) bs)) t

pub no_more : (limit base n i : ℕ) (bs : List ℕ) → length bs ≤ i → goes_on limit base n (drop i bs) ≡ Some (halves n)
unfolding goes_on
no_more limit base n i bs h = ap (goes_on limit base n) (drop_of_length-le bs h)

-- ---- the whole word

-- digits of a base, and at least one
abbrev pub some_digits : (limit base : ℕ) → List ℕ → Option Word
some_digits limit base bs = number_if (eqb (length bs) 0) None (goes_on limit base 0 bs)

-- the bytes of 0x, and whether a word starts with them
abbrev pub mark : List ℕ
mark = 48 ∷ 120 ∷ []

abbrev pub starts : List ℕ → Bool
starts bs = pointwise eqb (take 2 bs) mark

marked-starts : (bs : List ℕ) → marked bs ≡ (ltb 2 (length bs) && starts bs)
unfolding marked
marked-starts [] = refl
marked-starts (x ∷ []) = refl
marked-starts (x ∷ y ∷ []) = refl
marked-starts (x ∷ y ∷ z ∷ bs) = ap (λ (t : Bool). ltb 2 (length (x ∷ y ∷ z ∷ bs)) && (eqb x 48 && t)) (alone (eqb y 120))
  where
    alone : (t : Bool) → t ≡ (t && true)
    alone true = refl
    alone false = refl

module _ (limit : ℕ) (bs : List ℕ) where
  by_mark : (t : Bool) → marked bs ≡ t → number_of limit bs ≡ number_if t (goes_on limit 16 0 (drop 2 bs)) (some_digits limit 10 bs)
  unfolding number_of
  by_mark t e = ap (λ (u : Bool). number_if u (goes_on limit 16 0 (drop 2 bs)) (some_digits limit 10 bs)) e

  -- nothing stands behind 0x: the x is no decimal digit
  bare : starts bs ≡ true → length bs ≤ 2 → some_digits limit 10 bs ≡ None
  unfolding goes_on digit_of
  bare s h =
      ap (some_digits limit 10) (sym (take_all 2 bs h) ∙ (bytes_decides (take 2 bs) mark).0 s)
      ∙ neither (ltb 0 10 && ltb 0 limit)
    where
      neither : (t : Bool) → number_if t None None ≡ None
      neither true = refl
      neither false = refl

  pub number-hex : starts bs ≡ true → some_digits limit 16 (drop 2 bs) ≡ number_of limit bs
  number-hex s =
      split (ltb 2 (length bs))
      (λ t. ap (λ (u : Bool). number_if u None (goes_on limit 16 0 (drop 2 bs))) (ne_eqb _ 0 (λ e. omega (arith, ltb-true _ _ t, length-drop 2 bs)))
      ∙ sym (by_mark true (marked-starts bs ∙ true-and t s)))
      (λ t. ap (λ (u : Bool). number_if u None (goes_on limit 16 0 (drop 2 bs))) (eq-eqb _ 0 (omega (arith, ltb-false _ _ t, length-drop 2 bs)))
      ∙ sym (by_mark false (marked-starts bs ∙ ap (λ (u : Bool). u && starts bs) t) ∙ bare s (ltb-false _ _ t)))

  pub number-decimal : starts bs ≡ false → number_of limit bs ≡ some_digits limit 10 bs
  number-decimal s = by_mark false (marked-starts bs ∙ off (ltb 2 (length bs)) s)
    where
      off : (t : Bool) {u : Bool} → u ≡ false → (t && u) ≡ false
      off true e = e
      off false e = refl
