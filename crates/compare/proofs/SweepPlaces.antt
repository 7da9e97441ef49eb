-- Laws of the places at which headers that rules in play match may differ from a given one, and of the parts of a block.
use Prim.Native.Nat.{ℕ, suc, ◌+◌, ◌-◌, ◌*◌, ◌/◌, ◌%◌, ◌^◌, ◌≤◌, ◌<◌, min, max}
use mathlib.Core.Path.{◌≡◌, refl, sym, ap, ap₂, ◌∙◌, subst}
use mathlib.Core.Logic.{inl, inr}
use mathlib.Core.List.{List}
use mathlib.Core.Bool.{Bool, true, false, false≢true}
use native.Mathlib.Omega.{arith}
use native.Mathlib.Nat.{mod-eq_of_lt, mod-lt, div-eq_of_lt, mul-le-mul_right, mul_assoc, mul-mod_left}
use native.Mathlib.Decide.{dec_lt}
use lib.ListN.{length, get_or}
use lib.Bits.{bit_and, bit_or, bit_xor, and_comm, or_comm, and_mask, and_mod, and_le_r, xor_shr, xor_self, xor_lt}
use lib.Count.{count_leading_zeros, leading_length}
use lib.Pow.{pow_pos, pow-add, split}
use Rattle.words.specs.Words.{bit, without}
use Rattle.words.specs.Halves.{num, limit}
use Rattle.words.proofs.BitLaws.{bit-and, bit-or, bit<2, bit-xor-at, bit-without, without-flip, same_bits, xor-zero}
use Rattle.words.proofs.WordLaws.{limit-pow}
use Rattle.compare.specs.declared.blocks.Parts.{Parts}
use Rattle.compare.specs.EngineSets.{member, hit, answer_of}
use Rattle.compare.specs.EngineCubes.{Block}
use Rattle.compare.specs.Sweep.{SameBut, Loose, Settled, Blocks, Parted}
use Rattle.compare.proofs.EngineBlocks.{base, base-le, below_next, in_block, upper, block-few, ends, low-block, high-block}
use Rattle.compare.proofs.EngineFirst.{rest_end, rest-skip}
use Rattle.compare.proofs.EngineRules.{hit-no, hit-out, answer-rest}

-- ---- place by place

wide : (x : ℕ) → x < limit → x < 2 ^ 128
wide x = subst (λ (y : ℕ). x < y) limit-pow

-- any value at every place
any_value : (x h : ℕ) → x < limit → h < limit → SameBut x h (limit - 1)
any_value x h l lh =
    ap (λ (y : ℕ). bit_and (bit_xor x h) (y - 1)) limit-pow ∙ and_mask (bit_xor x h) 128 ∙ mod-eq_of_lt (xor_lt 128 x h (wide x l) (wide h lh))

-- more places
pub within-left : (d a e : ℕ) → bit_and d a ≡ d → bit_and d (bit_or a e) ≡ d
within-left d a e q = same_bits (bit_and d (bit_or a e)) d (λ k.
    let t : min (bit d k) (bit a k) ≡ bit d k = sym (bit-and d a k) ∙ ap (λ (x : ℕ). bit x k) q in
    bit-and d (bit_or a e) k ∙ ap (min (bit d k)) (bit-or a e k) ∙ one_in (bit d k) (bit a k) (bit e k) (bit<2 d k) t)
  where
    one_in : (d a e : ℕ) → d < 2 → min d a ≡ d → min d (max a e) ≡ d
    one_in d a e l q = omega arith

within-right : (d a e : ℕ) → bit_and d e ≡ d → bit_and d (bit_or a e) ≡ d
within-right d a e q = ap (bit_and d) (or_comm a e) ∙ within-left d e a q

-- a place of a word that is turned over is open where the word does not care
turned : (d c f : ℕ) → d < limit → c < limit → f ≡ limit - 1 - c → (k : ℕ) → min (bit d k) (bit f k) ≡ bit d k - bit c k
turned d c f l m e k =
    sym (bit-and d f k)
    ∙ ap (λ (x : ℕ). bit x k) (ap (bit_and d) (e ∙ ap (λ (x : ℕ). x - 1 - c) limit-pow) ∙ sym (without-flip 128 d c (wide d l) (wide c m)))
    ∙ bit-without d c k

-- the places that a rule leaves open, as the code computes them
pub open_told : (a c f : ℕ) → c < limit → a ≡ limit - 1 → f ≡ without a c → f ≡ limit - 1 - c
unfolding without
open_told a c f l e q =
    let m : bit_and a c ≡ c = ap (λ (x : ℕ). bit_and x c) (e ∙ ap (λ (x : ℕ). x - 1) limit-pow) ∙ and_comm (2 ^ 128 - 1) c ∙ and_mask c 128 ∙ mod-eq_of_lt (wide c l) in
    q ∙ ap (λ (x : ℕ). a - x) m ∙ ap (λ (x : ℕ). x - c) e

-- where a place is cared for, a header that matches has the rule's value
one_bit : (x h c v f : ℕ) → x < 2 → h < 2 → c < 2 → v < 2 → min ((x + h) % 2) f ≡ (x + h) % 2 - c → min x c ≡ v
    → min ((x + h) % 2) (max f ((v + h) % 2)) ≡ (x + h) % 2
one_bit x h c v f lx lh lc lv e q = omega arith

-- a header that a rule matches differs from h at most where the rule does not care or has another value than h
rule-places : (x h c v f : ℕ) → x < limit → h < limit → c < limit → f ≡ limit - 1 - c → bit_and x c ≡ v → SameBut x h (bit_or f (bit_xor v h))
rule-places x h c v f lx lh lc e q = same_bits _ _ (λ k.
    let m : min (bit x k) (bit c k) ≡ bit v k = sym (bit-and x c k) ∙ ap (λ (y : ℕ). bit y k) q in
    let s : bit (bit_xor x h) k ≡ (bit x k + bit h k) % 2 = bit-xor-at x h k in
    let small : bit_xor x h < limit = subst (λ (y : ℕ). bit_xor x h < y) (sym limit-pow) (xor_lt 128 x h (wide x lx) (wide h lh)) in
    let t : min ((bit x k + bit h k) % 2) (bit f k) ≡ (bit x k + bit h k) % 2 - bit c k =
    subst (λ (y : ℕ). min y (bit f k) ≡ y - bit c k) s (turned (bit_xor x h) c f small lc e k) in
    bit-and (bit_xor x h) (bit_or f (bit_xor v h)) k
    ∙ ap₂ min s (bit-or f (bit_xor v h) k ∙ ap (max (bit f k)) (bit-xor-at v h k))
    ∙ one_bit (bit x k) (bit h k) (bit c k) (bit v k) (bit f k) (bit<2 x k) (bit<2 h k) (bit<2 c k) (bit<2 v k) t m
    ∙ sym s)

-- ---- the places of all rules in play

module _ (cs vs live : List ℕ) (h : ℕ) where
  pub loose_none : (z : ℕ) → z ≡ 0 → Loose cs vs live h 0 z
  unfolding Loose
  loose_none z e i l m x b q = absurd (let y : ⊥ = omega arith in y)

  -- all places
  pub loose-all : h < limit → (n places : ℕ) → places ≡ limit - 1 → Loose cs vs live h n places
  unfolding Loose
  loose-all lh n places e i l m x b q = ap (bit_and (bit_xor x h)) e ∙ any_value x h b lh

  -- no rule in play from n up to m
  pub loose-skip : (n m places : ℕ) → n ≤ m → ((k : ℕ) → n ≤ k → k < m → member live k ≡ false) → Loose cs vs live h n places → Loose cs vs live h m places
  unfolding Loose
  loose-skip n m places l N L i u in-play x b q = go (dec_lt i n)
    where
      go : Dec (i < n) → SameBut x h places
      go (yes s) = L i s in-play x b q
      go (no s) = absurd (false≢true (sym (N i (omega arith) u) ∙ in-play))

  -- the rule n and those before it, as the code computes their places
  pub loose-more : h < limit → (n places c v f d e r : ℕ) → Loose cs vs live h n places → c < limit → c ≡ get_or cs n 0 → v ≡ get_or vs n 0
      → f ≡ limit - 1 - c → d ≡ bit_xor v h → e ≡ bit_or f d → r ≡ bit_or places e → Loose cs vs live h (n + 1) r
  unfolding Loose
  loose-more lh n places c v f d e r L lc is_c is-v is_f is-d is-e is-r i u in-play x b q = ap (bit_and (bit_xor x h)) is-r ∙ go (dec_lt i n)
    where
      here : i ≡ n → SameBut x h e
      here s =
          ap (bit_and (bit_xor x h)) (is-e ∙ ap (bit_or f) is-d)
          ∙ rule-places x h c v f b lh lc is_f (ap (bit_and x) (is_c ∙ ap (λ (y : ℕ). get_or cs y 0) (sym s)) ∙ q ∙ ap (λ (y : ℕ). get_or vs y 0) s ∙ sym is-v)

      go : Dec (i < n) → SameBut x h (bit_or places e)
      go (yes s) = within-left (bit_xor x h) places e (L i s in-play x b q)
      go (no s) = within-right (bit_xor x h) places e (here (omega arith))

  -- a header that differs from h at another place gets no answer
  loose-miss : (ds : List ℕ) (miss places x : ℕ) → x < limit → Loose cs vs live h (length cs) places → (SameBut x h places → ⊥)
      → answer_of cs vs ds live miss x ≡ miss
  unfolding Loose
  loose-miss ds miss places x b L n =
      answer-rest cs vs ds live miss x
      ∙ rest-skip (hit cs vs live x) ds miss (length cs) 0 (length cs) (omega arith) (λ j p q. no_hit j (omega arith) (member live j) refl)
      ∙ rest_end (hit cs vs live x) ds miss (length cs) (0 + length cs) (omega arith)
    where
      no_hit : (j : ℕ) → j < length cs → (t : Bool) → member live j ≡ t → hit cs vs live x j ≡ false
      no_hit j l true e = hit-no cs vs live x j (λ q. n (L j l e x b q))
      no_hit j l false e = hit-out cs vs live x j e

-- ---- two sides

-- nothing is said of any place
pub settled-all : (u v : ℕ → ℕ) (h : ℕ) → h < limit → (places : ℕ) → places ≡ limit - 1 → Settled u v h places
unfolding Settled
settled-all u v h lh places e x l n = absurd (n (ap (bit_and (bit_xor x h)) e ∙ any_value x h l lh))

module _ (cs vs live : List ℕ) (h n a b : ℕ) where
  loose-left : Loose cs vs live h n a → Loose cs vs live h n (bit_or a b)
  unfolding Loose
  loose-left L i l m x u q = within-left (bit_xor x h) a b (L i l m x u q)

  loose-right : Loose cs vs live h n b → Loose cs vs live h n (bit_or a b)
  unfolding Loose
  loose-right L i l m x u q = within-right (bit_xor x h) a b (L i l m x u q)

-- a header with another value elsewhere misses on both sides, and a miss counts as the same number
pub settled-places : (oc ov od ol : List ℕ) (om : ℕ) (nc nv nd nl : List ℕ) (nm h a b r : ℕ) → om ≡ nm
    → Loose oc ov ol h (length oc) a → Loose nc nv nl h (length nc) b → r ≡ bit_or a b
    → Settled (answer_of oc ov od ol om) (answer_of nc nv nd nl nm) h r
unfolding Settled
settled-places oc ov od ol om nc nv nd nl nm h a b r e O N is x l n =
    loose-miss oc ov ol h od om (bit_or a b) x l (loose-left oc ov ol h (length oc) a b O) apart ∙ e
    ∙ sym (loose-miss nc nv nl h nd nm (bit_or a b) x l (loose-right nc nv nl h (length nc) a b N) apart)
  where
    apart : SameBut x h (bit_or a b) → ⊥
    apart q = n (ap (bit_and (bit_xor x h)) is ∙ q)

-- ---- the parts of a block

-- a quotient of 0
below_power : (d k : ℕ) → d / 2 ^ k ≡ 0 → d < 2 ^ k
below_power d k e =
    let q : d / 2 ^ k * 2 ^ k ≡ 0 * 2 ^ k = ap (λ (x : ℕ). x * 2 ^ k) e in
    omega (arith, split d k, mod-lt d (pow_pos k))

-- how many of the lowest k places hold all that are named, by the zeros above them
pub few-places : (places low some z t k : ℕ) → low + 1 ≡ 2 ^ k → some ≡ bit_and places low → some < limit → z ≡ count_leading_zeros 128 some → t ≡ 128 - z
    → bit_and places (2 ^ k - 1) < 2 ^ t
few-places places low some z t k e f l g h =
    let s = leading_length 128 some (wide some l) in
    let q : s.0 ≡ t = omega (arith, s.1) in
    let r : some ≡ bit_and places (2 ^ k - 1) = f ∙ ap (bit_and places) (omega arith) in
    subst (λ (x : ℕ). x < 2 ^ t) r (subst (λ (x : ℕ). some < 2 ^ x) q s.2)

module _ (at k h places : ℕ) (B : Block at k) (from : at ≤ h) (below : h < at + 2 ^ k) where
  at-is : at / 2 ^ k * 2 ^ k ≡ at
  at-is = omega (arith, split at k, B.even)

  of-block : (x : ℕ) → at ≤ x → x < at + 2 ^ k → x / 2 ^ k ≡ at / 2 ^ k
  of-block x p q = in_block (at / 2 ^ k) x k (omega (arith, at-is)) (omega (arith, at-is))

  -- the block of 2^t headers that h lies in, where no place from t up to k is named
  module _ (t m : ℕ) (is : m ≡ limit - 2 ^ t) (less : t < k) (few : bit_and places (2 ^ k - 1) < 2 ^ t) where
    same-part : (x : ℕ) → at ≤ x → x < at + 2 ^ k → SameBut x h places → x / 2 ^ t ≡ h / 2 ^ t
    same-part x p q w =
        let d : ℕ = bit_xor x h in
        let z : d / 2 ^ k ≡ 0 = xor_shr x h k ∙ ap₂ bit_xor (of-block x p q) (of-block h from below) ∙ xor_self (at / 2 ^ k) in
        let l : d < 2 ^ k = below_power d k z in
        let r : d ≡ bit_and (d % 2 ^ k) (places % 2 ^ k) = sym (mod-eq_of_lt l) ∙ ap (λ (y : ℕ). y % 2 ^ k) (sym w) ∙ and_mod d places k in
        let s : d < 2 ^ t = omega (arith, and_mask places k, and_le_r (d % 2 ^ k) (places % 2 ^ k)) in
        xor-zero (x / 2 ^ t) (h / 2 ^ t) (sym (xor_shr x h t) ∙ div-eq_of_lt s)

    abbrev part : ℕ
    part = bit_and h m

    part-is : part ≡ base h t
    part-is = upper t m (omega (arith, block-few at k B)) is h (omega (arith, B.fits))

    -- the block and its end are multiples of 2^t
    abbrev times : ℕ
    times = 2 ^ (k - t)

    power-is : 2 ^ k ≡ times * 2 ^ t
    power-is = ap (λ (x : ℕ). 2 ^ x) (let e : k ≡ k - t + t = omega arith in e) ∙ pow-add 2 (k - t) t

    at-times : at ≡ at / 2 ^ k * times * 2 ^ t
    at-times = sym at-is ∙ ap (λ (x : ℕ). at / 2 ^ k * x) power-is ∙ sym (mul_assoc (at / 2 ^ k) times (2 ^ t))

    multiple-le : (n : ℕ) → n * 2 ^ t ≤ h → n * 2 ^ t ≤ base h t
    multiple-le n l = go (dec_lt (h / 2 ^ t) n)
      where
        go : Dec (h / 2 ^ t < n) → n * 2 ^ t ≤ base h t
        go (yes u) = let m : suc (h / 2 ^ t) * 2 ^ t ≤ n * 2 ^ t = mul-le-mul_right (2 ^ t) u in absurd (let z : ⊥ = omega (arith, below_next h t) in z)
        go (no u) = mul-le-mul_right (2 ^ t) (let e : n ≤ h / 2 ^ t = omega arith in e)

    multiple-lt : (n : ℕ) → h < n * 2 ^ t → base h t + 2 ^ t ≤ n * 2 ^ t
    multiple-lt n l = go (dec_lt (h / 2 ^ t) n)
      where
        go : Dec (h / 2 ^ t < n) → base h t + 2 ^ t ≤ n * 2 ^ t
        go (yes u) = let m : suc (h / 2 ^ t) * 2 ^ t ≤ n * 2 ^ t = mul-le-mul_right (2 ^ t) u in omega arith
        go (no u) =
            let m : n * 2 ^ t ≤ h / 2 ^ t * 2 ^ t = mul-le-mul_right (2 ^ t) (let e : n ≤ h / 2 ^ t = omega arith in e) in
            absurd (let z : ⊥ = omega (arith, base-le h t) in z)

    part-from : at ≤ part
    part-from = omega (arith, part-is, at-times, multiple-le (at / 2 ^ k * times) (omega (arith, at-times)))

    part-upto : part + 2 ^ t ≤ at + 2 ^ k
    part-upto =
        let e : (at / 2 ^ k * times + times) * 2 ^ t ≡ at + 2 ^ k = omega (arith, at-times, power-is) in
        omega (arith, part-is, multiple-lt (at / 2 ^ k * times + times) (omega arith))

    part-block : Block part t
    part-block = record {
      even = ap (λ (x : ℕ). x % 2 ^ t) part-is ∙ mul-mod_left (h / 2 ^ t) (2 ^ t);
      fits = omega (arith, part-upto, B.fits);
    }

    -- what lies outside of it
    outside : (u v : ℕ → ℕ) → Settled u v h places → (x : ℕ) → at ≤ x → x < at + 2 ^ k → (base x t ≡ part → ⊥) → u x ≡ v x
    unfolding Settled
    outside u v S x p q n = S x (omega (arith, B.fits)) (λ w. n (ap (λ (y : ℕ). y * 2 ^ t) (same-part x p q w) ∙ sym part-is))

    module _ (p : Parts) (size : p.k ≡ t) (low : num p.low ≡ part) (high : num p.high ≡ part) (u v : ℕ → ℕ) (S : Settled u v h places) where
      end_is : num p.high + 2 ^ p.k ≡ part + 2 ^ t
      end_is = ap₂ (λ (x y : ℕ). x + 2 ^ y) high size

      one_block : Blocks p
      one_block = record {
        lower = subst (λ (x : ℕ). Block (num p.low) x) (sym size) (subst (λ (x : ℕ). Block x t) (sym low) part-block);
        upper = subst (λ (x : ℕ). Block (num p.high) x) (sym size) (subst (λ (x : ℕ). Block x t) (sym high) part-block);
        order = inl (low ∙ sym high);
      }

      pub parted-one : Parted u v at k p
      parted-one = record {
        less = omega arith;
        blocks = one_block;
        from = omega (arith, part-from);
        upto = omega (arith, end_is, part-upto);
        before = λ x a b. outside u v S x a (omega (arith, part-upto)) (λ e. let z : ⊥ = omega (arith, base-le x t) in z);
        after = λ x a b. outside u v S x (omega (arith, end_is, part-from)) b (λ e. let z : ⊥ = omega (arith, end_is, below_next x t) in z);
      }

  -- both halves
  module _ (some : 0 < k) (p : Parts) (size : p.k ≡ k - 1) (low : num p.low ≡ at) (high : num p.high ≡ at + 2 ^ (k - 1)) where
    next : k - 1 + 1 ≡ k
    next = omega arith

    half_is : 2 ^ p.k ≡ 2 ^ (k - 1)
    half_is = ap (λ (x : ℕ). 2 ^ x) size

    two_blocks : Blocks p
    two_blocks = record {
      lower = subst (λ (x : ℕ). Block (num p.low) x) (sym size) (subst (λ (x : ℕ). Block x (k - 1)) (sym low) (low-block at k (k - 1) B next));
      upper = subst (λ (x : ℕ). Block (num p.high) x) (sym size) (high-block at k (k - 1) B next (num p.high) high);
      order = inr (omega (arith, half_is));
    }

    pub parted-two : (u v : ℕ → ℕ) → Parted u v at k p
    parted-two u v = record {
      less = omega arith;
      blocks = two_blocks;
      from = omega arith;
      upto = omega (arith, half_is, ends at k (k - 1) B next);
      before = λ x l q. absurd (let z : ⊥ = omega arith in z);
      after = λ x l q. absurd (let z : ⊥ = omega (arith, half_is, ends at k (k - 1) B next) in z);
    }
