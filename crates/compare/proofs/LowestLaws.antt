-- Laws of the search for the lowest difference of a cube, place by place from the left.
use Prim.Native.Nat.{ℕ, ◌+◌, ◌-◌, ◌*◌, ◌/◌, ◌^◌, ◌≤◌, ◌<◌, min}
use mathlib.Core.Path.{◌≡◌, sym, ap, ap₂, ◌∙◌, subst}
use mathlib.Core.Logic.{⊎_elim}
use mathlib.Core.Bool.{true, false}
use native.Mathlib.Omega.{arith}
use native.Mathlib.Nat.{add-mul, div-eq_of_lt, div-one, le_of_lt}
use native.Mathlib.Decide.{ℕ_discrete, dec_lt}
use lib.Bits.{bit_and, bit_or, and_self, and_le_l, or_comm}
use lib.Pow.{pow_pos, split, shr-shr, shr_mono}
use lib.Dec.{eqb}
use Rattle.words.specs.Words.{bit, without}
use Rattle.words.specs.Halves.{num, limit}
use Rattle.words.specs.declared.Word.{Word}
use Rattle.words.proofs.Tests.{eqb_yes, no_eqb}
use Rattle.words.proofs.BitLaws.{and_assoc, and_pow, and-sub, bit-and, bit-without, bit<2, zero-or-one, power-other, same_bits}
use Rattle.std.specs.Prelude.{Option, Some, None, IfSome}
use Rattle.std.specs.Option.{unwrap_or}
use Rattle.compare.specs.EngineCubes.{Alike, Decided}
use Rattle.compare.specs.Search.{Lowered}
use Rattle.compare.proofs.EngineBits.{and-or}
use Rattle.compare.proofs.EngineBlocks.{base, base-le, below_next, in_block, upper}
use Rattle.compare.proofs.SweepPlaces.{within-left}

-- ---- a cube that cares at the places from k up besides

-- m has the places from k up, c is what the cube cares for without them
module _ (c k m : ℕ) (few : k ≤ 128) (is : m ≡ limit - 2 ^ k) where
  -- two headers that are the same under c and from k up are the same under both
  pub both-same : (x y : ℕ) → x < limit → y < limit → bit_and x c ≡ bit_and y c → x / 2 ^ k ≡ y / 2 ^ k → bit_and x (bit_or c m) ≡ bit_and y (bit_or c m)
  both-same x y l l' e q =
      and-or x c m
      ∙ ap₂ bit_or e (upper k m few is x l ∙ ap (λ (z : ℕ). z * 2 ^ k) q ∙ sym (upper k m few is y l'))
      ∙ sym (and-or y c m)

  -- and the other way round
  pub same_first : (x y : ℕ) → bit_and x (bit_or c m) ≡ bit_and y (bit_or c m) → bit_and x c ≡ bit_and y c
  same_first x y e =
      let s : bit_and c (bit_or c m) ≡ c = within-left c c m (and_self c) in
      sym (and-sub c (bit_or c m) x s) ∙ ap (λ (z : ℕ). bit_and z c) e ∙ and-sub c (bit_or c m) y s

  pub same-upper : (x y : ℕ) → x < limit → y < limit → bit_and x (bit_or c m) ≡ bit_and y (bit_or c m) → x / 2 ^ k ≡ y / 2 ^ k
  same-upper x y l l' e =
      let s : bit_and m (bit_or c m) ≡ m = ap (bit_and m) (or_comm c m) ∙ within-left m m c (and_self m) in
      let b : base x k ≡ base y k =
      sym (upper k m few is x l) ∙ sym (and-sub m (bit_or c m) x s) ∙ ap (λ (z : ℕ). bit_and z m) e ∙ and-sub m (bit_or c m) y s ∙ upper k m few is y l' in
      in_block (y / 2 ^ k) x k (omega (arith, base-le x k)) (omega (arith, below_next x k))

-- the value of a header under a care word has no bit outside it
pub under-valid : (y c : ℕ) → bit_and (bit_and y c) c ≡ bit_and y c
under-valid y c = and_assoc y c c ∙ ap (bit_and y) (and_self c)

-- ---- a header with one place cleared

module _ (h k : ℕ) (one : bit h k ≡ 1) where
  cleared-is : without h (2 ^ k) + 2 ^ k ≡ h
  unfolding without
  cleared-is =
      let a : bit_and h (2 ^ k) ≡ 2 ^ k = and_pow h k ∙ ap (λ (z : ℕ). z * 2 ^ k) one ∙ omega arith in
      let p : 2 ^ k ≤ h = subst (λ (z : ℕ). z ≤ h) a (and_le_l h (2 ^ k)) in
      omega arith

  pub cleared-below : without h (2 ^ k) ≤ h
  cleared-below = omega (arith, cleared-is)

  pub cleared-upper : without h (2 ^ k) / 2 ^ k + 1 ≡ h / 2 ^ k
  cleared-upper =
      let s = split (without h (2 ^ k)) k in
      let e : (without h (2 ^ k) / 2 ^ k + 1) * 2 ^ k ≡ without h (2 ^ k) / 2 ^ k * 2 ^ k + 2 ^ k = more (without h (2 ^ k) / 2 ^ k) (2 ^ k) in
      sym (in_block (without h (2 ^ k) / 2 ^ k + 1) h k (omega (arith, cleared-is, s)) (omega (arith, cleared-is, below_next (without h (2 ^ k)) k)))
    where
      more : (a m : ℕ) → (a + 1) * m ≡ a * m + m
      more a m = add-mul a 1 m ∙ omega arith

  pub cleared-same : (c : ℕ) → bit c k ≡ 0 → bit_and (without h (2 ^ k)) c ≡ bit_and h c
  cleared-same c z = same_bits (bit_and (without h (2 ^ k)) c) (bit_and h c) (λ j. bit-and (without h (2 ^ k)) c j ∙ at j (ℕ_discrete j k) ∙ sym (bit-and h c j))
    where
      less_none : (a z : ℕ) → z ≡ 0 → a - z ≡ a
      less_none a z e = omega arith

      at : (j : ℕ) → Dec (j ≡ k) → min (bit (without h (2 ^ k)) j) (bit c j) ≡ min (bit h j) (bit c j)
      at j (yes e) = let q : bit c j ≡ 0 = ap (bit c) e ∙ z in omega arith
      at j (no n) = ap (λ (x : ℕ). min x (bit c j)) (bit-without h (2 ^ k) j ∙ less_none (bit h j) (bit (2 ^ k) j) (power-other k j n))

-- ---- one place

module _ (f g : ℕ → ℕ) (c v k h : ℕ) (L : Lowered f g c v (k + 1) h) where
  -- a lower difference is the same as h above place k
  above_same : (x : ℕ) → x < h → bit_and x c ≡ v → (f x ≡ g x → ⊥) → x / 2 ^ k / 2 ≡ h / 2 ^ k / 2
  above_same x l i d = shr-shr x k 1 ∙ L.lower x l i d ∙ sym (shr-shr h k 1)

  -- h has 0 there
  pub lowered-zero : bit h k ≡ 0 → Lowered f g c v k h
  lowered-zero z = record {
    inside = L.inside;
    fits = L.fits;
    differ = L.differ;
    lower = λ x l i d. omega (arith, above_same x l i d, shr_mono {a = x} {b = h} k (le_of_lt l));
  }

  -- the cube cares there
  pub lowered-fixed : bit c k ≡ 1 → Lowered f g c v k h
  lowered-fixed o = record {
    inside = L.inside;
    fits = L.fits;
    differ = L.differ;
    lower = λ x l i d.
        let e : min (bit x k) (bit c k) ≡ min (bit h k) (bit c k) = sym (bit-and x c k) ∙ ap (λ (y : ℕ). bit y k) (i ∙ sym L.inside) ∙ bit-and h c k in
        omega (arith, above_same x l i d, bit<2 x k, bit<2 h k);
  }

  -- h has 1 there and the cube does not care: the headers with 0 there are the cube of care pc and value pv
  module _ (one : bit h k ≡ 1) (free : bit c k ≡ 0) (few : k ≤ 128) (m pc y pv : ℕ) (is : m ≡ limit - 2 ^ k) (ec : pc ≡ bit_or c m)
      (ey : y ≡ without h (2 ^ k)) (ev : pv ≡ bit_and y pc) where
    y-fits : y < limit
    y-fits = omega (arith, ey, cleared-below h k one, L.fits)

    y-care : bit_and y c ≡ v
    y-care = ap (λ (x : ℕ). bit_and x c) ey ∙ cleared-same h k one c free ∙ L.inside

    y-upper : y / 2 ^ k + 1 ≡ h / 2 ^ k
    y-upper = ap (λ (x : ℕ). x / 2 ^ k + 1) ey ∙ cleared-upper h k one

    pub part-valid : bit_and pv pc ≡ pv
    part-valid = ap (λ (x : ℕ). bit_and x pc) ev ∙ under-valid y pc ∙ sym ev

    part_in : (x : ℕ) → x < limit → bit_and x c ≡ v → x / 2 ^ k ≡ y / 2 ^ k → bit_and x pc ≡ pv
    part_in x l i q = ap (bit_and x) ec ∙ both-same c k m few is x y l y-fits (i ∙ sym y-care) q ∙ ap (bit_and y) (sym ec) ∙ sym ev

    of_part : (x : ℕ) → bit_and x pc ≡ pv → bit_and x (bit_or c m) ≡ bit_and y (bit_or c m)
    of_part x e = ap (bit_and x) (sym ec) ∙ e ∙ ev ∙ ap (bit_and y) ec

    none_below : Decided f g pc pv None → (x : ℕ) → x < h → bit_and x c ≡ v → (f x ≡ g x → ⊥) → x / 2 ^ k ≡ y / 2 ^ k → ⊥
    unfolding Decided Alike
    none_below D x l i d q = let s : x < limit = omega (arith, L.fits) in d (D x s (part_in x s i q))

    -- there is no difference among them
    lowered-nothing : Decided f g pc pv None → Lowered f g c v k h
    lowered-nothing D = record {
      inside = L.inside;
      fits = L.fits;
      differ = L.differ;
      lower = λ x l i d. go x l i d (ℕ_discrete (x / 2 ^ k) (y / 2 ^ k));
    }
      where
        go : (x : ℕ) → x < h → bit_and x c ≡ v → (f x ≡ g x → ⊥) → Dec (x / 2 ^ k ≡ y / 2 ^ k) → x / 2 ^ k ≡ h / 2 ^ k
        go x l i d (yes q) = absurd (none_below D x l i d q)
        go x l i d (no n) = let e = above_same x l i d in let u = y-upper in let t : x / 2 ^ k ≡ h / 2 ^ k = omega arith in t

    -- one of them is a difference
    lowered-at : (z : Word) → num z < limit → Decided f g pc pv (Some z) → Lowered f g c v k (num z)
    unfolding Decided
    lowered-at z l D =
        let q : num z / 2 ^ k ≡ y / 2 ^ k = same-upper c k m few is (num z) y l y-fits (of_part (num z) D.0) in
        let b : num z < h = less (dec_lt (num z) h) q in record {
          inside = same_first c k m few is (num z) y (of_part (num z) D.0) ∙ y-care;
          fits = l;
          differ = D.1;
          lower = λ x s i d. let e = above_same x (omega arith) i d in omega (arith, e, q, y-upper, shr_mono {a = x} {b = num z} k (le_of_lt s));
        }
      where
        less : Dec (num z < h) → num z / 2 ^ k ≡ y / 2 ^ k → num z < h
        less (yes s) q = s
        less (no n) q = absurd (let t : ⊥ = omega (arith, q, y-upper, shr_mono {a = h} {b = num z} k (omega arith)) in t)

    -- what the engine answers, else h
    pub lowered-or : (x : Word) → num x ≡ h → (r : Option Word) → Decided f g pc pv r → IfSome r (λ z. num z < limit) → Lowered f g c v k (num (unwrap_or r x))
    lowered-or x e (Some z) D l = lowered-at z l D
    lowered-or x e None D l = rw e (lowered-nothing D)

-- ---- before the first place, and after the last

module _ (f g : ℕ → ℕ) (c v w : ℕ) where
  pub lowered-start : (h : ℕ) → bit_and h c ≡ v → h < limit → h < 2 ^ w → (f h ≡ g h → ⊥) → Lowered f g c v w h
  lowered-start h i l b d = record {
    inside = i;
    fits = l;
    differ = d;
    lower = λ x s j e. div-eq_of_lt (omega arith) ∙ sym (div-eq_of_lt b);
  }

  pub lowered-end : (h : ℕ) → Lowered f g c v 0 h → (x : ℕ) → x < h → bit_and x c ≡ v → f x ≡ g x
  lowered-end h L x l i = go (ℕ_discrete (f x) (g x))
    where
      go : Dec (f x ≡ g x) → f x ≡ g x
      go (yes e) = e
      go (no n) = absurd (let e : x ≡ h = sym (div-one x) ∙ L.lower x l i n ∙ div-one h in let t : ⊥ = omega arith in t)

-- ---- as the code tells it

-- the place of weight p is 0, or 1, in a word
pub zero-there : (h k p a : ℕ) → p ≡ 2 ^ k → a ≡ bit_and h p → eqb a 0 ≡ true → bit h k ≡ 0
zero-there h k p a ep ea t =
    let e : bit h k * 2 ^ k ≡ 0 = sym (ea ∙ ap (bit_and h) ep ∙ and_pow h k) ∙ eqb_yes a 0 t in
    ⊎_elim (λ z. z) (λ o. absurd (let q : 1 * 2 ^ k ≡ 0 = subst (λ (x : ℕ). x * 2 ^ k ≡ 0) o e in let f : ⊥ = omega (arith, pow_pos k) in f)) (zero-or-one (bit h k) (bit<2 h k))

pub one-there : (h k p a : ℕ) → p ≡ 2 ^ k → a ≡ bit_and h p → eqb a 0 ≡ false → bit h k ≡ 1
one-there h k p a ep ea t =
    ⊎_elim (λ z. absurd (no_eqb a 0 t (ea ∙ ap (bit_and h) ep ∙ and_pow h k ∙ ap (λ (x : ℕ). x * 2 ^ k) z ∙ omega arith))) (λ o. o) (zero-or-one (bit h k) (bit<2 h k))
