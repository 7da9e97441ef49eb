-- Laws of the words that the engine makes: the places from k up, the ends of a block, and a full word.
use Prim.Native.Nat.{ℕ, suc, ◌+◌, ◌-◌, ◌*◌, ◌%◌, ◌^◌, ◌≤◌, ◌<◌, min}
use mathlib.Core.List.{List}
use mathlib.Core.Path.{◌≡◌, sym, ap, ap₂, ◌∙◌, subst}
use mathlib.Core.Bool.{Bool, false, false≢true}
use native.Mathlib.Omega.{arith}
use native.Mathlib.Nat.{mod-eq_of_lt}
use lib.ListN.{length, get_or}
use lib.Dec.{eqb}
use lib.Bits.{bit_and, bit_or, or_disjoint}
use lib.Pow.{pow_pos}
use Rattle.words.specs.declared.Word.{Word}
use Rattle.words.specs.Halves.{word, num, halves, limit}
use Rattle.words.specs.Slices.{words_of}
use Rattle.words.specs.Words.{without}
use Rattle.words.proofs.SliceLaws.{read-inside, words-length}
use Rattle.words.proofs.Tests.{eqb_yes, no_eqb}
use Rattle.words.proofs.BitLaws.{without-flip}
use Rattle.words.proofs.WordLaws.{num-halves, halves-num, halves-low, holds, and-made, limit-pow}
use Rattle.compare.specs.EngineCubes.{Says}

-- a test that is told by an equation of two numbers says whether they are equal
pub says : {r : Bool} (a b : ℕ) → r ≡ eqb a b → Says r (a ≡ b)
says {r} a b e = ((λ t. eqb_yes a b (sym e ∙ t)), λ t. no_eqb a b (sym e ∙ t))

-- the same where the numbers are known otherwise
pub says_of : {r : Bool} (a b : ℕ) {m n : ℕ} → r ≡ eqb a b → a ≡ m → b ≡ n → Says r (m ≡ n)
says_of {r} a b {m} {n} e p q =
    let s : Says r (a ≡ b) = says a b e in
    ((λ t. sym p ∙ s.0 t ∙ q), λ t f. s.1 t (p ∙ f ∙ sym q))

-- a word is full where nothing is left of it when it is turned over
pub full-told : {r : Bool} (n t : ℕ) → n < limit → t ≡ limit - 1 - n → r ≡ eqb t 0 → Says r (n ≡ limit - 1)
full-told {r} n t l e q =
    let s : Says r (t ≡ 0) = says t 0 q in
    ((λ p. let z : t ≡ 0 = s.0 p in omega arith), λ p f. s.1 p (omega arith))

pub above-told : (k : ℕ) {x : Word} → k ≤ 128 → x ≡ halves (limit - 2 ^ min k 128) → num x ≡ limit - 2 ^ k
above-told k {x} l e = holds e ∙ ap (λ (y : ℕ). limit - 2 ^ y) (omega arith)

pub lowest-told : (k : ℕ) {x : Word} → k ≤ 128 → x ≡ halves (2 ^ min k 128 - 1) → num x + 1 ≡ 2 ^ k
lowest-told k {x} l e =
    let p : num x ≡ 2 ^ k - 1 = holds e ∙ ap (λ (y : ℕ). 2 ^ y - 1) (omega arith) in
    omega (arith, pow_pos k)

-- all places
pub all_told : {x : Word} → x ≡ halves (2 ^ min 128 128 - 1) → num x ≡ limit - 1
all_told {x} e = holds e ∙ ap (λ (y : ℕ). y - 1) (sym limit-pow)

-- a sum that fits
sum_told : (a b : ℕ) {x : Word} → a + b < limit → x ≡ halves ((a + b) % limit) → num x ≡ a + b
sum_told a b {x} l e = holds e ∙ mod-eq_of_lt l

pub after-told : (a b k : ℕ) {x : Word} → b ≡ 2 ^ k → a + 2 ^ k < limit → x ≡ halves ((a + b) % limit) → num x ≡ a + 2 ^ k
after-told a b k {x} e l f = sum_told a b (omega arith) f ∙ ap (λ (y : ℕ). a + y) e

-- ---- words half by half

module _ (l : List ℕ) (i m n : ℕ) (e : m ≡ i * 2) (f : n ≡ suc m) (h : i < length (words_of l)) (p : get_or l m 0 < 2 ^ 64) where
  both : word (get_or l m 0) (get_or l n 0) ≡ halves (get_or (words_of l) i 0)
  both = read-inside l i m n e f (omega (arith, words-length l)) p

  pub low_told : get_or l m 0 ≡ (halves (get_or (words_of l) i 0)).low
  low_told = ap (λ (w : Word). w.low) both

  pub high-told : get_or l n 0 ≡ (halves (get_or (words_of l) i 0)).high
  high-told = ap (λ (w : Word). w.high) both

pub read_told : (n a b : ℕ) → a ≡ (halves n).low → b ≡ (halves n).high → num (word a b) ≡ n
read_told n a b e f = ap₂ (λ (x y : ℕ). num (word x y)) e f ∙ num-halves n

module _ (x : Word) (p : x.low < 2 ^ 64) where
  pub low_of : x.low ≡ (halves (num x)).low
  low_of = ap (λ (w : Word). w.low) (sym (halves-num x p))

  pub high-of : x.high ≡ (halves (num x)).high
  high-of = ap (λ (w : Word). w.high) (sym (halves-num x p))

-- the bits that two numbers share, of their halves a and b
module _ (x y : ℕ) where
  shared : word (bit_and (halves x).low (halves y).low) (bit_and (halves x).high (halves y).high) ≡ halves (bit_and x y)
  shared = and-made (halves x) (halves y) (halves-low x) (halves-low y) ∙ ap₂ (λ (m n : ℕ). halves (bit_and m n)) (num-halves x) (num-halves y)

  pub low_and : {a b : ℕ} → a ≡ (halves x).low → b ≡ (halves y).low → bit_and a b ≡ (halves (bit_and x y)).low
  low_and {a} {b} e f = ap₂ bit_and e f ∙ ap (λ (w : Word). w.low) shared

  pub high-and : {a b : ℕ} → a ≡ (halves x).high → b ≡ (halves y).high → bit_and a b ≡ (halves (bit_and x y)).high
  high-and {a} {b} e f = ap₂ bit_and e f ∙ ap (λ (w : Word). w.high) shared

-- two numbers are told apart by their low halves, or else by their high ones
module _ (m n : ℕ) {a c : ℕ} (p : a ≡ (halves m).low) (q : c ≡ (halves n).low) where
  pub low-apart : (a ≡ c → ⊥) → Says false (m ≡ n)
  low-apart x = ((λ t. absurd (false≢true t)), λ t e. x (p ∙ ap (λ (y : ℕ). (halves y).low) e ∙ sym q))

  pub low_alike : {r : Bool} {b d : ℕ} → b ≡ (halves m).high → d ≡ (halves n).high → a ≡ c → r ≡ eqb b d → Says r (m ≡ n)
  low_alike {r} {b} {d} u v x t =
      let s : Says r (b ≡ d) = says b d t in (
        (λ y. sym (read_told m a b p u) ∙ ap₂ (λ (g h : ℕ). num (word g h)) x (s.0 y) ∙ read_told n c d q v),
        λ y e. s.1 y (u ∙ ap (λ (z : ℕ). (halves z).high) e ∙ sym v),
      )

-- ---- the last header of a cube

-- the value is 0 where the cube does not care
pub end-told : (v c t : ℕ) {x : Word} → v < limit → c < limit → bit_and v c ≡ v → t ≡ limit - 1 - c → x ≡ halves (bit_or v t) → num x ≡ v + (limit - 1 - c)
unfolding without
end-told v c t {x} l m inside e f =
    let z : bit_and v t ≡ 0 =
    ap (bit_and v) (e ∙ ap (λ (y : ℕ). y - 1 - c) limit-pow)
    ∙ sym (without-flip 128 v c (subst (λ (y : ℕ). v < y) limit-pow l) (subst (λ (y : ℕ). c < y) limit-pow m)) ∙ ap (λ (y : ℕ). v - y) inside ∙ omega arith in
    holds f ∙ or_disjoint v t z ∙ ap (λ (y : ℕ). v + y) e
