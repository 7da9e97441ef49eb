-- Laws of a word that is taken back bit by bit: each set bit goes to the place that its entry names, until none is left.
use mathlib.Core.Path.{◌≡◌, sym, ap, ◌∙◌}
use mathlib.Core.Logic.{◌≢◌}
use mathlib.Core.List.{List}
use mathlib.Core.Bool.{Bool, true, not}
use Prim.Native.Nat.{ℕ, suc, ◌+◌, ◌-◌, ◌*◌, ◌%◌, ◌^◌, ◌≤◌, ◌<◌}
use native.Mathlib.Omega.{arith}
use native.Mathlib.Nat.{zero-div, one-mul}
use native.Mathlib.Decide.{ℕ_discrete}
use lib.Bits.{bit_and, bit_or, and_le_l, or_lt}
use lib.Count.{count_leading_zeros}
use lib.Dec.{eqb}
use lib.ListN.{get_or}
use lib.Pow.{pow_pos, pow-lt}
use Rattle.words.specs.declared.Word.{Word}
use Rattle.words.specs.Words.{bit, without}
use Rattle.words.specs.Halves.{num, halves, limit}
use Rattle.words.proofs.Tests.{not-true, no_eqb}
use Rattle.words.proofs.BitLaws.{and_pow, bit<2, bit-without, bit-power, power-other, or-power, or-other}
use Rattle.words.proofs.SeamLaws.{leading_low}
use Rattle.words.proofs.WordLaws.{holds, single-told}
use Rattle.bits.proofs.ZeroLaws.{leading-set}
use Rattle.swaps.specs.Swaps.{moved, good, inverse}
use Rattle.swaps.proofs.WordLaws.{same-places}
use Rattle.swaps.proofs.SwapLaws.{Perm, good-perm}
use Rattle.swaps.proofs.MoveLaws.{moved-lt, moved-bit, inverse-at}

-- ---- the highest set bit of a word of width w, found by the zeros to its left in a word of k bits

pub record Top (k w a z : ℕ) : Type 0 where
  pub few : z < k
  pub inside : k - 1 - z < w
  pub set : bit a (k - 1 - z) ≡ 1

pub top : (k w a : ℕ) {z : ℕ} {t : Bool} → w ≤ k → a < 2 ^ w → t ≡ eqb a 0 → not t ≡ true → z ≡ count_leading_zeros k a → Top k w a z
top k w a {z} {t} u h e some f =
    let n : a ≢ 0 = no_eqb a 0 (sym e ∙ not-true t some) in
    let s = leading-set w a h n in
    let q : k - w + w ≡ k = omega arith in
    let g : count_leading_zeros k a ≡ k - w + count_leading_zeros w a = rw q at (leading_low (k - w) w a h) in
    let i : k - 1 - z ≡ w - 1 - count_leading_zeros w a = omega arith in
    record {
      few = omega (arith, s.0);
      inside = omega (arith, s.0);
      set = rw i s.1;
    }

-- ---- words

-- what is made of a number and a word of one bit
pub of_one : (f : ℕ → ℕ) (k : ℕ) {one r : Word} → k < 128 → one ≡ halves (2 ^ k % limit) → r ≡ halves (f (num one)) → num r ≡ f (2 ^ k)
of_one f k h e g = holds g ∙ ap f (single-told k h e)

-- a word that was made is the word of its number
pub word_held : {x : Word} (n : ℕ) → x ≡ halves n → x ≡ halves (num x)
word_held n e = e ∙ ap halves (sym (holds e))

-- a word without one of its bits is less
pub without-less : (a v : ℕ) → bit a v ≡ 1 → without a (2 ^ v) < a
unfolding without
without-less a v e =
    let s : bit_and a (2 ^ v) ≡ 2 ^ v = and_pow a v ∙ ap (λ (x : ℕ). x * 2 ^ v) e ∙ one-mul (2 ^ v) in
    omega (arith, pow_pos v, and_le_l a (2 ^ v))

-- ---- the bits that went to their places and the bits that are left make up the word

-- the weight that the bit of weight t goes to
abbrev pub home : (w : ℕ) → (places : List ℕ) → ℕ → ℕ
home w ps t = w - get_or ps (w - 1 - t) 0

pub record Returning (w : ℕ) (ps : List ℕ) (x out left : ℕ) : Type 0 where
  pub made : out < 2 ^ w
  pub rest : left < 2 ^ w
  pub each : (t : ℕ) → t < w → bit out (home w ps t) + bit left t ≡ bit x t

pub return-none : (w : ℕ) (ps : List ℕ) (x : ℕ) → x < 2 ^ w → Returning w ps x 0 x
return-none w ps x h = record { made = pow_pos w; rest = h; each = λ t l. omega (arith, zero-div (2 ^ home w ps t)) }

module _ (size w : ℕ) (ps : List ℕ) (u : w ≤ size) (f : good size w ps ≡ true) where
  perm : Perm size w ps
  perm = good-perm size w ps u f

  pub place_in : (t : ℕ) → t < w → (1 ≤ get_or ps (w - 1 - t) 0) × (get_or ps (w - 1 - t) 0 ≤ w)
  place_in t l = let i : w - 1 - t < w = omega arith in (perm.low _ i, perm.high _ i)

  home-one : (t v : ℕ) → t < w → v < w → home w ps t ≡ home w ps v → t ≡ v
  home-one t v l m e =
      let q : w - 1 - t ≡ w - 1 - v = perm.once _ _ (omega arith) (omega arith) (omega (arith, place_in t l, place_in v m)) in
      omega arith

  -- the bit of weight v has gone
  pub return-more : (x out left v : ℕ) → v < w → bit left v ≡ 1 → Returning w ps x out left
      → Returning w ps x (bit_or out (2 ^ home w ps v)) (without left (2 ^ v))
  return-more x out left v l b r =
      record {
        made = or_lt w out _ r.made (pow-lt (omega (arith, place_in v l)));
        rest = omega (arith, without-less left v b);
        each = λ t m. elim (ℕ_discrete t v) [
          | yes e ↦ rw e (omega (arith, or-power out (home w ps v), bit-without left (2 ^ v) v, bit-power v, r.each v l, bit<2 x v))
          | no n ↦ omega (
            arith,
            or-other out (home w ps v) (home w ps t) (λ e. n (home-one t v m l e)),
            bit-without left (2 ^ v) t,
            power-other v t n,
            r.each t m,
          )
        ];
      }

  -- none is left
  pub return-all : (x out left : ℕ) → left ≡ 0 → Returning w ps x out left → out ≡ moved w (inverse size w ps) x
  return-all x out left e r =
      same-places w out _ r.made (moved-lt w (inverse size w ps) x)
      (λ p l.
      let s = inverse-at size w ps u perm p l in
      let t : ℕ = w - suc s.0 in
      let n : w - 1 - t ≡ s.0 = omega (arith, s.1) in
      let o = rw (n, s.2, e) at (r.each t (omega (arith, s.1))) in
      rw (moved-bit w (inverse size w ps) x p l, s.3) (omega (arith, zero-div (2 ^ t))))
