-- Laws of words and the numbers that they hold.
use Rattle.std.proofs.Common.{◌≡◌, ℕ, ◌+◌, ◌-◌, ◌*◌, ◌/◌, ◌%◌, ◌^◌, ◌<◌, ◌≤◌, min, Bool, true, false, ◌&&◌, ◌||◌, eqb, ltb, sym, refl, ap, ◌∙◌, subst, ap₂, lt_of_lt_of_le, mod-eq_of_lt, div-lt_iff_lt-mul, add_comm, arith, pow_pos, pow_mono, pow-add, le-ltb, lt-ltb, eq-eqb, ne_eqb}
use native.Mathlib.Nat.{add-mul-mod_self_right, mod-add-mod, min-eq_left, min-eq_right}
use lib.Bits.{bit_and, bit_or, bit_xor, and_lt, or_lt, xor_lt}
use lib.Count.{ones, count_leading_zeros}
use lib.Pow.{pow-lt}
use Rattle.words.specs.declared.Word.{Word}
use Rattle.words.specs.Words.{bit, set_bits, without}
use Rattle.words.specs.Halves.{word, num, halves, limit}
use Rattle.words.proofs.BitLaws.{set_bits-ones, ones-zero, without-flip, bit_high}
use Rattle.words.proofs.SeamLaws.{seam-low, seam-high, and-seam, or-seam, xor-seam, set_bits-seam, bit_below, bit-above, eqb-seam, ltb-seam, below-low, below-high, leading_low, leading-high, two-lt, two-sum}

ones-some : (n : ℕ) → (n ≡ 0 → ⊥) → 0 < ones n
ones-some n h = above-none (ones n) (λ (e : ones n ≡ 0). h (ones-zero n e))
  where
    above-none : (m : ℕ) → (m ≡ 0 → ⊥) → 0 < m
    above-none m f = omega (arith, f)

-- the word of a number holds it
pub num-halves : (n : ℕ) → num (halves n) ≡ n
unfolding num halves
num-halves n = omega arith

-- what a promise of a word says of its number
pub holds : {x : Word} {n : ℕ} → x ≡ halves n → num x ≡ n
holds {x} {n} e = ap num e ∙ num-halves n

-- a test of equality, of a word that was made
pub same-told : (y : Word) (n : ℕ) {t : Bool} {x : Word} → t ≡ eqb (num x) (num y) → x ≡ halves n → t ≡ eqb n (num y)
same-told y n {t} {x} e f = e ∙ ap (λ (k : ℕ). eqb k (num y)) (holds f)

pub halves-zero : word 0 0 ≡ halves 0
unfolding halves
halves-zero = refl

-- a word of two machine words is the word of its number
pub halves-num : (x : Word) → x.low < 2 ^ 64 → halves (num x) ≡ x
unfolding num halves
halves-num x p = ap₂ word (seam-low 64 x.low x.high p) (seam-high 64 x.low x.high p)

-- two words that hold one number are one
pub same-num : (x y : Word) → x.low < 2 ^ 64 → y.low < 2 ^ 64 → num x ≡ num y → x ≡ y
same-num x y p q e = sym (halves-num x p) ∙ ap halves e ∙ halves-num y q

-- the limit is what two machine words can hold, and 2 to the 128
pub limit-halves : limit ≡ 2 ^ 64 * 2 ^ 64
unfolding limit
limit-halves = refl

pub limit-pow : limit ≡ 2 ^ 128
unfolding limit
limit-pow = refl

pub below-limit : (l h : ℕ) → l < 2 ^ 64 → h < 2 ^ 64 → l + h * 2 ^ 64 < limit
below-limit l h p q = subst (λ (k : ℕ). l + h * 2 ^ 64 < k) (sym limit-halves) (two-lt (2 ^ 64) l h p q)

-- a word of two machine words holds a number of 128 bits
pub num-lt : (x : Word) → x.low < 2 ^ 64 → x.high < 2 ^ 64 → num x < limit
unfolding num
num-lt x p q = subst (λ (k : ℕ). num x < k) (sym limit-halves) (two-lt (2 ^ 64) x.low x.high p q)

-- the halves of a number of 128 bits are machine words
pub halves-low : (n : ℕ) → (halves n).low < 2 ^ 64
unfolding halves
halves-low n = omega arith

pub halves-high : (n : ℕ) → n < limit → (halves n).high < 2 ^ 64
unfolding halves
halves-high n h = (div-lt_iff_lt-mul (pow_pos 64)).1 (subst (λ (k : ℕ). n < k) limit-halves h)

-- a word that is made of halves is the word of a number where the number is made of them
pub made : (l h n : ℕ) → l < 2 ^ 64 → n ≡ l + h * 2 ^ 64 → word l h ≡ halves n
unfolding halves
made l h n p e =
    sym (ap₂ word
    (ap (λ (x : ℕ). x % 2 ^ 64) e ∙ seam-low 64 l h p)
    (ap (λ (x : ℕ). x / 2 ^ 64) e ∙ seam-high 64 l h p))

-- the same where the number is cut to 128 bits
pub cut : (l h c n : ℕ) → l < 2 ^ 64 → h < 2 ^ 64 → n ≡ l + h * 2 ^ 64 + c * limit → word l h ≡ halves (n % limit)
cut l h c n p q e =
    made l h (n % limit) p
    (ap (λ (x : ℕ). x % limit) e ∙ add-mul-mod_self_right (l + h * 2 ^ 64) c limit
    ∙ mod-eq_of_lt (subst (λ (k : ℕ). l + h * 2 ^ 64 < k) (sym limit-halves) (two-lt (2 ^ 64) l h p q)))

pub cut_small : (l h n : ℕ) → l < 2 ^ 64 → h < 2 ^ 64 → n ≡ l + h * 2 ^ 64 → word l h ≡ halves (n % limit)
cut_small l h n p q e = cut l h 0 n p q (omega arith)

-- the sum of two words, half by half: a carry c out of the low halves, and d out of the high ones
pub sum : (a b : Word) (l h c d : ℕ) → l < 2 ^ 64 → h < 2 ^ 64 → a.low + b.low ≡ l + c * 2 ^ 64
    → a.high + b.high + c ≡ h + d * 2 ^ 64 → num a + num b ≡ l + h * 2 ^ 64 + d * limit
unfolding num
sum a b l h c d p q e f =
    two-sum (2 ^ 64) a.low a.high b.low b.high l h c d e f
    ∙ ap (λ (x : ℕ). l + h * 2 ^ 64 + d * x) (sym limit-halves)

pub plus-made : (a b : Word) (l h c d : ℕ) → l < 2 ^ 64 → h < 2 ^ 64 → a.low + b.low ≡ l + c * 2 ^ 64
    → a.high + b.high + c ≡ h + d * 2 ^ 64 → word l h ≡ halves ((num a + num b) % limit)
plus-made a b l h c d p q e f = cut l h d (num a + num b) p q (sum a b l h c d p q e f)

-- the number before a word's, half by half: c is borrowed from the high half
pub before-made : (a : Word) (l h c : ℕ) → l < 2 ^ 64 → l + 1 ≡ a.low + c * 2 ^ 64 → h + c ≡ a.high → word l h ≡ halves (num a - 1)
unfolding num
before-made a l h c p e f = made l h _ p (omega arith)

-- 0 has no number before it
pub before-zero : (a : Word) → a.low ≡ 0 → a.high ≡ 0 → a ≡ halves (num a - 1)
unfolding num
before-zero a e f = made a.low a.high _ (omega arith) (omega arith)

-- the limit less 1 is what two full halves hold
full : 18446744073709551615 + 18446744073709551615 * 2 ^ 64 + 0 * limit ≡ limit - 1
unfolding limit
full = refl

pub flip-made : (a : Word) → a.low < 2 ^ 64 → a.high < 2 ^ 64
    → word (18446744073709551615 - a.low) (18446744073709551615 - a.high) ≡ halves (limit - 1 - num a)
flip-made a p q =
    let b : Word = word (18446744073709551615 - a.low) (18446744073709551615 - a.high) in
    let s : num a + num b ≡ 18446744073709551615 + 18446744073709551615 * 2 ^ 64 + 0 * limit =
    sum a b 18446744073709551615 18446744073709551615 0 0 (omega arith) (omega arith) (omega arith) (omega arith) in
    sym (halves-num b (omega arith)) ∙ ap halves (turned (num a) (num b) (limit - 1) (s ∙ full))
  where
    turned : (x y z : ℕ) → x + y ≡ z → y ≡ z - x
    turned x y z e = omega arith

-- ---- what each function makes

module _ (a b : Word) (p : a.low < 2 ^ 64) (q : b.low < 2 ^ 64) where
  pub and-made : word (bit_and a.low b.low) (bit_and a.high b.high) ≡ halves (bit_and (num a) (num b))
  unfolding num
  and-made = made _ _ _ (and_lt 64 _ _ p q) (and-seam 64 a.low a.high b.low b.high p q)

  pub or-made : word (bit_or a.low b.low) (bit_or a.high b.high) ≡ halves (bit_or (num a) (num b))
  unfolding num
  or-made = made _ _ _ (or_lt 64 _ _ p q) (or-seam 64 a.low a.high b.low b.high p q)

  pub xor-made : word (bit_xor a.low b.low) (bit_xor a.high b.high) ≡ halves (bit_xor (num a) (num b))
  unfolding num
  xor-made = made _ _ _ (xor_lt 64 _ _ p q) (xor-seam 64 a.low a.high b.low b.high p q)

  pub same-made : (eqb a.low b.low && eqb a.high b.high) ≡ eqb (num a) (num b)
  unfolding num
  same-made = sym (eqb-seam 64 a.low a.high b.low b.high p q)

  less-made : ltb (num a) (num b) ≡ (ltb a.high b.high || (eqb a.high b.high && ltb a.low b.low))
  unfolding num
  less-made = ltb-seam 64 a.low a.high b.low b.high p q

  pub less-low : a.high ≡ b.high → ltb a.low b.low ≡ ltb (num a) (num b)
  less-low e =
      sym (less-made ∙ ap₂ (λ (x y : Bool). x || (y && ltb a.low b.low)) (le-ltb a.high b.high (omega arith)) (eq-eqb _ _ e))

  pub less-high : (a.high ≡ b.high → ⊥) → ltb a.high b.high ≡ ltb (num a) (num b)
  less-high e =
      sym (less-made ∙ ap (λ (x : Bool). ltb a.high b.high || (x && ltb a.low b.low)) (ne_eqb _ _ e) ∙ or-false (ltb a.high b.high))
    where
      or-false : (x : Bool) → (x || false) ≡ x
      or-false true = refl
      or-false false = refl

module _ (a : Word) (p : a.low < 2 ^ 64) where
  pub ones-made : ones a.low + ones a.high ≡ set_bits (num a)
  unfolding num
  ones-made =
      sym (set_bits-seam 64 a.low a.high p ∙ ap₂ (λ (x y : ℕ). x + y) (set_bits-ones a.low) (set_bits-ones a.high))

  pub ones_low : a.high ≡ 0 → ones a.low ≡ set_bits (num a)
  unfolding ones
  ones_low e =
      (let z : ones a.high ≡ 0 = ap ones e in let q : ones a.low ≡ ones a.low + ones a.high = omega (arith, z) in q) ∙ ones-made

  pub one-low : a.high ≡ 0 → eqb (set_bits a.low) 1 ≡ eqb (set_bits (num a)) 1
  one-low e = ap (λ (n : ℕ). eqb n 1) (set_bits-ones a.low ∙ ones_low e)

  pub one-high : a.low ≡ 0 → eqb (set_bits a.high) 1 ≡ eqb (set_bits (num a)) 1
  unfolding ones
  one-high e =
      ap (λ (n : ℕ). eqb n 1)
      (set_bits-ones a.high ∙ (let z : ones a.low ≡ 0 = ap ones e in let q : ones a.high ≡ ones a.low + ones a.high = omega (arith, z) in q) ∙ ones-made)

  pub one_none : (a.low ≡ 0 → ⊥) → (a.high ≡ 0 → ⊥) → false ≡ eqb (set_bits (num a)) 1
  one_none l h =
      sym (ne_eqb (set_bits (num a)) 1 (λ (e : set_bits (num a) ≡ 1). l (ones-zero a.low
      (let q : ones a.low ≡ 0 = omega (arith, ones-made, e, ones-some a.high h) in q))))

  pub bit-low : (k : ℕ) → k < 64 → bit a.low k ≡ bit (num a) k
  unfolding num
  bit-low k q = sym (bit_below 64 a.low a.high k q)

  pub bit-upper : (k : ℕ) → 64 ≤ k → bit a.high (k - 64) ≡ bit (num a) k
  unfolding num
  bit-upper k q = sym (bit-above 64 a.low a.high k p q)

  pub bit_past : (k : ℕ) → a.high < 2 ^ 64 → 128 ≤ k → 0 ≡ bit (num a) k
  bit_past k h q = sym (bit_high 128 (num a) k (subst (λ (x : ℕ). num a < x) limit-pow (num-lt a p h)) q)

  pub below-narrow : (w : ℕ) → w ≤ 64 → (eqb a.high 0 && ltb a.low (2 ^ w)) ≡ ltb (num a) (2 ^ w)
  unfolding num
  below-narrow w q = sym (below-low 64 a.low a.high w p q)

  pub below-wide : (w : ℕ) → 64 ≤ w → ltb a.high (2 ^ (w - 64)) ≡ ltb (num a) (2 ^ w)
  unfolding num
  below-wide w q = sym (below-high 64 a.low a.high w p q)

  pub below_all : (w : ℕ) → a.high < 2 ^ 64 → 128 ≤ w → true ≡ ltb (num a) (2 ^ w)
  below_all w h q = sym (lt-ltb _ _ (lt_of_lt_of_le (subst (λ (x : ℕ). num a < x) limit-pow (num-lt a p h)) (pow_mono q)))

  pub leading-here : a.high < 2 ^ 64 → (a.high ≡ 0 → ⊥) → count_leading_zeros 64 a.high ≡ count_leading_zeros 128 (num a)
  unfolding num
  leading-here h e =
      sym (ap (count_leading_zeros 128) (add_comm a.low (a.high * 2 ^ 64)) ∙ leading-high 64 64 a.low a.high p (omega arith) h)

  pub leading-there : a.high ≡ 0 → 64 + count_leading_zeros 64 a.low ≡ count_leading_zeros 128 (num a)
  unfolding num
  leading-there e =
      sym (ap (count_leading_zeros 128) (let f : a.low + a.high * 2 ^ 64 ≡ a.low = omega arith in f)
      ∙ leading_low 64 64 a.low p)

-- ---- calls that are made of other calls

-- the bits of a that b does not have: those that a shares with b turned over
pub without-made : (a b : Word) {x y : Word} → num a < limit → num b < limit → x ≡ halves (limit - 1 - num b) → y ≡ halves (bit_and (num a) (num x))
    → y ≡ halves (without (num a) (num b))
unfolding limit
without-made a b p q e f = f ∙ ap halves (ap (bit_and (num a)) (holds e) ∙ sym (without-flip 128 (num a) (num b) p q))

-- no bit is set where a word is the one that holds 0
pub zero-made : (a : Word) {z : Word} {t : Bool} → z ≡ halves 0 → t ≡ eqb (num a) (num z) → t ≡ eqb (num a) 0
zero-made a e f = f ∙ ap (eqb (num a)) (holds e)

-- ---- powers of two

-- a shifted 1 that stays in a machine word
pub one_shifted : (k : ℕ) → k < 64 → 1 * 2 ^ k % 2 ^ 64 ≡ 2 ^ k
one_shifted k p = let s : 2 ^ k < 2 ^ 64 = pow-lt p in omega arith

split_at : (s k : ℕ) → s ≤ k → 2 ^ k ≡ 2 ^ (k - s) * 2 ^ s
split_at s k p = ap (λ (x : ℕ). 2 ^ x) (let e : k ≡ (k - s) + s = omega arith in e) ∙ pow-add 2 (k - s) s

pub single-low : (k : ℕ) → k < 64 → word (1 * 2 ^ k % 2 ^ 64) 0 ≡ halves (2 ^ k % limit)
single-low k p = let s : 2 ^ k < 2 ^ 64 = pow-lt p in cut_small _ _ _ (omega arith) (omega arith) (omega arith)

pub single-high : (k : ℕ) → 64 ≤ k → k < 128 → word 0 (1 * 2 ^ (k - 64) % 2 ^ 64) ≡ halves (2 ^ k % limit)
single-high k p q =
    let s : 2 ^ (k - 64) < 2 ^ 64 = pow-lt {i = k - 64} {j = 64} (omega arith) in
    let e : 2 ^ k ≡ 2 ^ (k - 64) * 2 ^ 64 = split_at 64 k p in
    ap (word 0) (one_shifted (k - 64) (omega arith)) ∙ cut_small 0 (2 ^ (k - 64)) (2 ^ k) (omega arith) s (omega arith)

pub single-past : (k : ℕ) → 128 ≤ k → word 0 0 ≡ halves (2 ^ k % limit)
single-past k p =
    let e : 2 ^ k ≡ 2 ^ (k - 128) * limit = split_at 128 k p ∙ ap (λ (x : ℕ). 2 ^ (k - 128) * x) (sym limit-pow) in
    cut 0 0 (2 ^ (k - 128)) (2 ^ k) (omega arith) (omega arith) (omega arith)

-- the number of the word with one bit
pub single-told : (k : ℕ) {x : Word} → k < 128 → x ≡ halves (2 ^ k % limit) → num x ≡ 2 ^ k
single-told k h e = holds e ∙ ap (λ (n : ℕ). 2 ^ k % n) limit-pow ∙ mod-eq_of_lt (pow-lt h)

at-min : (k m : ℕ) → min k 128 ≡ m → 2 ^ min k 128 - 1 ≡ 2 ^ m - 1
at-min k m e = ap (λ (x : ℕ). 2 ^ x - 1) e

pub lowest-low : (k : ℕ) → k < 64 → word (1 * 2 ^ k % 2 ^ 64 - 1) 0 ≡ halves (2 ^ min k 128 - 1)
lowest-low k p =
    let s : 2 ^ k < 2 ^ 64 = pow-lt p in
    made _ _ _ (omega arith) (at-min k k (omega arith) ∙ omega arith)

pub lowest-high : (k : ℕ) → 64 ≤ k → k < 128 → word 18446744073709551615 (1 * 2 ^ (k - 64) % 2 ^ 64 - 1) ≡ halves (2 ^ min k 128 - 1)
lowest-high k p q =
    let z : 0 < 2 ^ (k - 64) = pow_pos (k - 64) in
    let e : 2 ^ k ≡ 2 ^ (k - 64) * 2 ^ 64 = split_at 64 k p in
    ap (λ (x : ℕ). word 18446744073709551615 (x - 1)) (one_shifted (k - 64) (omega arith))
    ∙ made _ _ _ (omega arith) (at-min k k (omega arith) ∙ omega arith)

pub lowest-past : (k : ℕ) → 128 ≤ k → word 18446744073709551615 18446744073709551615 ≡ halves (2 ^ min k 128 - 1)
lowest-past k p = made _ _ _ (omega arith) (at-min k 128 (omega arith))

-- the bits from k on
pub upper-made : (k : ℕ) {x y : Word} → x ≡ halves (2 ^ min k 128 - 1) → y ≡ halves (limit - 1 - num x) → y ≡ halves (limit - 2 ^ min k 128)
upper-made k {x} {y} e f =
    f ∙ ap halves (let p : num x ≡ 2 ^ min k 128 - 1 = holds e in let q : 0 < 2 ^ min k 128 = pow_pos (min k 128) in omega arith)

-- ---- a word built bit by bit

num-low : (b : ℕ) → num (word b 0) ≡ b
unfolding num
num-low b = omega arith

pub pushed-made : (a : Word) (b : ℕ) (x y : Word) → x ≡ halves ((num a + num a) % limit) → y ≡ halves ((num x + num (word b 0)) % limit)
    → y ≡ halves ((num a * 2 + b) % limit)
pushed-made a b x y e f =
    f
    ∙ ap halves (ap₂ (λ (u v : ℕ). (u + v) % limit) (holds e) (num-low b) ∙ mod-add-mod (num a + num a) limit b
    ∙ ap (λ (u : ℕ). (u + b) % limit) (let t : num a + num a ≡ num a * 2 = omega arith in t))

-- ---- a word as one machine word

pub capped-low : (x : Word) (n : ℕ) → x.low ≤ n → x.high ≡ 0 → x.low ≡ min (num x) n
unfolding num
capped-low x n p e = sym (min-eq_left (let q : x.low + x.high * 2 ^ 64 ≤ n = omega arith in q) ∙ (let q : x.low + x.high * 2 ^ 64 ≡ x.low = omega arith in q))

pub capped-high : (x : Word) → (x.high ≡ 0 → ⊥) → 2 ^ 64 - 1 ≡ min (num x) (2 ^ 64 - 1)
unfolding num
capped-high x e = sym (min-eq_right (let q : 2 ^ 64 - 1 ≤ x.low + x.high * 2 ^ 64 = omega arith in q))
