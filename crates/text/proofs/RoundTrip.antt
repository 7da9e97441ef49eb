-- A number that is written in decimal and read again is the number.
use mathlib.Core.Path.{◌≡◌, refl, sym, ap, ◌∙◌}
use mathlib.Core.List.{List, [], ◌∷◌, ◌++◌}
use mathlib.Core.Bool.{Bool, true, false, ◌&&◌}
use Prim.Native.Nat.{ℕ, zero, suc, ◌+◌, ◌*◌, ◌/◌, ◌%◌, ◌^◌, ◌≤◌, ◌<◌}
use native.Mathlib.Omega.{arith}
use lib.Dec.{ltb}
use lib.ListN.{length, get_or, take, length-append}
use borrow.Author.Tests.{lt-ltb, le-ltb, ne_eqb}
use Rattle.words.specs.declared.Word.{Word}
use Rattle.words.specs.Halves.{num, halves, limit}
use Rattle.words.proofs.WordLaws.{num-halves, num-lt, halves-num}
use Rattle.words.proofs.Tests.{never_true, true-and}
use Rattle.std.specs.Prelude.{Some, None}
use Rattle.text.specs.Numbers.{digit_of, number_if, goes_on, number_of}
use Rattle.text.specs.Decimal.{last_digit, digits_within, decimal}
use Rattle.text.specs.Put.{Put}
use Rattle.text.proofs.NumberLaws.{mark, starts, number-decimal}
use lib.Pointwise.{bytes_decides}
use Rattle.text.proofs.PutLaws.{put_whole}

-- ---- the digits go on to the number

byte-digit : (d : ℕ) → d < 10 → digit_of (48 + d) ≡ d
unfolding digit_of
byte-digit d h = simp (le-ltb (48 + d) 48 (omega arith), lt-ltb (48 + d) 58 (omega arith)) (omega arith)

-- digits after each other: the later ones go on from the number of the earlier ones
goes-append : (bound base n m : ℕ) (xs ys : List ℕ) → goes_on bound base n xs ≡ Some (halves m)
    → goes_on bound base n (xs ++ ys) ≡ goes_on bound base m ys
unfolding goes_on
goes-append bound base n m [] ys e =
    let h : halves n ≡ halves m = cc in
    ap (λ (k : ℕ). goes_on bound base k ys) (sym (num-halves n) ∙ ap num h ∙ num-halves m)
goes-append bound base n m (x ∷ xs) ys e =
    go (ltb (digit_of x) base && ltb (n * base + digit_of x) bound) (goes-append bound base (n * base + digit_of x) m xs ys) e
  where
    go : (t : Bool) → (goes_on bound base (n * base + digit_of x) xs ≡ Some (halves m) → goes_on bound base (n * base + digit_of x) (xs ++ ys) ≡ goes_on bound base m ys)
        → number_if t (goes_on bound base (n * base + digit_of x) xs) None ≡ Some (halves m)
        → number_if t (goes_on bound base (n * base + digit_of x) (xs ++ ys)) None ≡ goes_on bound base m ys
    go true f q = f q
    go false f q = let z : ◌≡◌ {A = ℕ} 0 1 = cc in absurd (omega arith)

module _ (bound n : ℕ) (h : n < bound) where
  goes_last : (xs : List ℕ) → goes_on bound 10 0 xs ≡ Some (halves (n / 10)) → goes_on bound 10 0 (xs ++ (last_digit n ∷ [])) ≡ Some (halves n)
  unfolding goes_on
  goes_last xs e =
      let d : digit_of (last_digit n) ≡ n % 10 = byte-digit (n % 10) (omega arith) in
      let s : n / 10 * 10 + digit_of (last_digit n) ≡ n = omega arith in
      goes-append bound 10 0 (n / 10) xs (last_digit n ∷ []) e
      ∙ ap (λ (t : Bool). number_if t (Some (halves (n / 10 * 10 + digit_of (last_digit n)))) None)
      (true-and (lt-ltb (digit_of (last_digit n)) 10 (omega arith)) (lt-ltb (n / 10 * 10 + digit_of (last_digit n)) bound (omega arith)))
      ∙ ap (λ (k : ℕ). Some (halves k)) s

digits-read : (bound k n : ℕ) → n ≤ k → n < bound → goes_on bound 10 0 (digits_within k n) ≡ Some (halves n)
unfolding goes_on digits_within
digits-read bound zero n p h = ap (λ (m : ℕ). Some (halves m)) (let e : 0 ≡ n = omega arith in e)
digits-read bound (suc k) zero p h = refl
digits-read bound (suc k) (suc n) p h =
    goes_last bound (suc n) h (digits_within k (suc n / 10)) (digits-read bound k (suc n / 10) (omega arith) (omega arith))

-- ---- and they are the bytes of 0 to 9, so that no number in decimal is marked as hexadecimal

Small : List ℕ → Type 0
Small xs = (j : ℕ) → get_or xs j 0 < 58

small-last : (xs : List ℕ) (n : ℕ) → Small xs → Small (xs ++ (last_digit n ∷ []))
unfolding Small
small-last [] n s zero = omega arith
small-last [] n s (suc zero) = omega arith
small-last [] n s (suc (suc j)) = omega arith
small-last (x ∷ xs) n s zero = s 0
small-last (x ∷ xs) n s (suc j) = small-last xs n (λ i. s (suc i)) j

digits-small : (k n : ℕ) → Small (digits_within k n)
unfolding Small digits_within
digits-small zero n zero = omega arith
digits-small zero n (suc j) = omega arith
digits-small (suc k) zero zero = omega arith
digits-small (suc k) zero (suc j) = omega arith
digits-small (suc k) (suc n) j = small-last (digits_within k (suc n / 10)) (suc n) (digits-small k (suc n / 10)) j

small-unmarked : (xs : List ℕ) → Small xs → starts xs ≡ false
unfolding Small
small-unmarked [] s = refl
small-unmarked (x ∷ []) s = never_true (λ e. omega (arith, ap length ((bytes_decides (x ∷ []) mark).0 e)))
small-unmarked (x ∷ y ∷ xs) s =
    never_true (λ e. omega (arith, s 1, ap (λ (l : List ℕ). get_or l 1 0) ((bytes_decides (x ∷ y ∷ []) mark).0 e)))

-- A number below a bound, written in decimal, reads as that number. Every number that a word holds is below `limit`.
pub read_back : (bound n : ℕ) → n < bound → number_of bound (decimal n) ≡ Some (halves n)
unfolding decimal
read_back bound n h =
    number-decimal bound (decimal n) (small-unmarked (decimal n) (small-last (digits_within n (n / 10)) n (digits-small n (n / 10))))
    ∙ ap (λ (t : Bool). number_if t None (goes_on bound 10 0 (decimal n)))
    (ne_eqb (length (decimal n)) 0 (λ e. let z : length (decimal n) ≡ 0 = e in omega (arith, length-append (digits_within n (n / 10)) (last_digit n ∷ []))))
    ∙ goes_last bound n h (digits_within n (n / 10)) (digits-read bound n (n / 10) (omega arith) (omega arith))

-- What `write_number` puts into a slice with room for it, `read_number` reads as the word that was written.
pub written_read : (x : Word) (old : List ℕ) (n : ℕ) (new : List ℕ) → x.low < 2 ^ 64 → x.high < 2 ^ 64 → Put (Some (decimal (num x))) old (Some n) new
    → number_of limit (take n new) ≡ Some x
written_read x old n new p q w =
    ap (number_of limit) (put_whole (decimal (num x)) old n new w) ∙ read_back limit (num x) (num-lt x p q) ∙ ap Some (halves-num x p)
