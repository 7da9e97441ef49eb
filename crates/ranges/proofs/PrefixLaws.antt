-- Laws of prefixes: where a prefix ends, how it is moved from one half of a field to the other, and which numbers it covers.
use mathlib.Core.Path.{◌≡◌, refl, sym, ap, ap₂, ◌∙◌, subst}
use mathlib.Core.List.{List, [], ◌∷◌, ◌++◌, map}
use mathlib.Core.Bool.{Bool, true, ◌&&◌}
use Prim.Native.Nat.{ℕ, suc, ◌+◌, ◌-◌, ◌*◌, ◌/◌, ◌%◌, ◌^◌, ◌≤◌, ◌<◌, min}
use native.Mathlib.Omega.{arith}
use native.Mathlib.Nat.{pow-suc, mod-lt, zero-add, mul-le-mul_right, add-mul-mod_self_right, add-mul}
use lib.Pow.{pow_pos, pow-add, split, high, shr_lt, shr_mod, high_ones, ones_split, ones_lt}
use lib.Dec.{eqb, leb, ltb}
use lib.Bits.{bit_and, and_high}
use borrow.Author.Tests.{le-leb, lt-ltb, leb-true, leb-false, ltb-true, ltb-false}
use Rattle.words.proofs.Tests.{split as by, same_test, true-and, and-true, eqb_yes, yes_eqb}
use Rattle.words.specs.Words.{bit, place_bit}
use Rattle.words.proofs.BitLaws.{bit_high}
use Rattle.words.proofs.SeamLaws.{bit_below, bit-above}
use Rattle.rules.specs.Rules.{choose}
use Rattle.rules.specs.Lists.{All}
use Rattle.ranges.specs.Prefixes.{Prefix, PrefixIn, care_word, prefix_matches, matching}
use Rattle.ranges.specs.Ranges.{shifted}

-- ---- multiples of a power of two

-- a number with nothing behind weight 2^k is a number of its blocks
pub blocks : (n k : ℕ) → n % 2 ^ k ≡ 0 → n / 2 ^ k * 2 ^ k ≡ n
blocks n k e = omega (arith, split n k, e)

pub pow-split : (b k : ℕ) → k ≤ b → 2 ^ b ≡ 2 ^ (b - k) * 2 ^ k
pow-split b k h = let e : b ≡ b - k + k = omega arith in ap (λ (x : ℕ). 2 ^ x) e ∙ pow-add 2 (b - k) k

-- a block that starts in the field ends in it
pub block-end : (b k n : ℕ) → k ≤ b → n < 2 ^ b → n % 2 ^ k ≡ 0 → n + 2 ^ k ≤ 2 ^ b
block-end b k n h l e =
    let j = b - k in
    let few : n / 2 ^ k < 2 ^ j = shr_lt j k (subst (λ (x : ℕ). n < 2 ^ x) (omega arith) l) in
    let room : suc (n / 2 ^ k) * 2 ^ k ≤ 2 ^ j * 2 ^ k = mul-le-mul_right _ few in
    omega (arith, room, blocks n k e, pow-split b k h, add-mul 1 (n / 2 ^ k) (2 ^ k))

-- the greater half of a field starts at a block of any size
pub clear-after : (b k n : ℕ) → k ≤ b → (n + 2 ^ b) % 2 ^ k ≡ n % 2 ^ k
clear-after b k n h = ap (λ (x : ℕ). (n + x) % 2 ^ k) (pow-split b k h) ∙ add-mul-mod_self_right n (2 ^ (b - k)) (2 ^ k)

pub clear-before : (b k n : ℕ) → k ≤ b → 2 ^ b ≤ n → (n - 2 ^ b) % 2 ^ k ≡ n % 2 ^ k
clear-before b k n h l =
    let e : n - 2 ^ b + 2 ^ b ≡ n = omega arith in
    sym (clear-after b k (n - 2 ^ b) h) ∙ ap (λ (x : ℕ). x % 2 ^ k) e

pub prefix-end : (b : ℕ) (p : Prefix) → PrefixIn b p → p.first + 2 ^ p.stars ≤ 2 ^ b
prefix-end b p v = block-end b p.stars p.first v.fits v.within v.clear

-- ---- the care word, place by place

pub care-fits : (b : ℕ) (p : Prefix) → care_word b p < 2 ^ b
unfolding care_word
care-fits b p = omega (arith, pow_pos b, pow_pos p.stars)

care-blocks : (b : ℕ) (p : Prefix) → p.stars ≤ b → care_word b p ≡ (2 ^ (b - p.stars) - 1) * 2 ^ p.stars
unfolding care_word
care-blocks b p h = let e : b ≡ b - p.stars + p.stars = omega arith in ap (λ (x : ℕ). 2 ^ x - 2 ^ p.stars) e ∙ high_ones (b - p.stars) p.stars

-- a number of ones has a 1 at each of its weights
ones_bit : (j u : ℕ) → u < j → bit (2 ^ j - 1) u ≡ 1
ones_bit j u h =
    let i = j - u - 1 in
    let e : j ≡ suc i + u = omega arith in
    let t : 2 ^ suc i ≡ 2 ^ i * 2 = pow-suc 2 i in
    let s : 0 < 2 ^ i = pow_pos i in
    ap (λ (x : ℕ). x / 2 ^ u % 2) (ap (λ (x : ℕ). 2 ^ x - 1) e ∙ ones_split (suc i) u)
    ∙ ap (λ (x : ℕ). x % 2) (high (2 ^ suc i - 1) u (ones_lt u))
    ∙ omega arith

-- The places before the stars care.
pub care-before : (b k : ℕ) (p : Prefix) → p.stars ≤ b → 1 ≤ k → k ≤ b - p.stars → place_bit b (care_word b p) k ≡ 1
care-before b k p h l s =
    ap (λ (x : ℕ). bit x (b - k)) (care-blocks b p h ∙ sym (zero-add _))
    ∙ bit-above p.stars 0 (2 ^ (b - p.stars) - 1) (b - k) (pow_pos p.stars) (omega arith)
    ∙ ones_bit (b - p.stars) (b - k - p.stars) (omega arith)

-- The places behind them do not.
pub care-after : (b k : ℕ) (p : Prefix) → p.stars ≤ b → b - p.stars < k → k ≤ b → place_bit b (care_word b p) k ≡ 0
care-after b k p h l s =
    ap (λ (x : ℕ). bit x (b - k)) (care-blocks b p h ∙ sym (zero-add _))
    ∙ bit_below p.stars 0 (2 ^ (b - p.stars) - 1) (b - k) (omega arith)
    ∙ bit_high 0 0 (b - k) (omega arith) (omega arith)

-- ---- the numbers that a prefix covers

-- 1 where a number is not below `low`, else 0
abbrev pub reached : (low n : ℕ) → ℕ
reached low n = min 1 (suc n - low)

-- 1 where a number is below `end`, else 0
abbrev pub ahead : (end n : ℕ) → ℕ
ahead end n = min 1 (end - n)

-- 1 where a number lies from low on and below the end, else 0
abbrev pub inside : (low end n : ℕ) → ℕ
inside low end n = min (reached low n) (ahead end n)

pub inside-yes : (low end n : ℕ) → low ≤ n → n < end → inside low end n ≡ 1
inside-yes low end n l h = omega arith

pub inside-early : (low end n : ℕ) → n < low → inside low end n ≡ 0
inside-early low end n h = omega arith

pub inside-late : (low end n : ℕ) → end ≤ n → inside low end n ≡ 0
inside-late low end n h = omega arith

-- what a number says that lies inside
pub inside-facts : (low end n : ℕ) → 0 < inside low end n → (low ≤ n) × (n < end)
inside-facts low end n h = (omega arith, omega arith)

pub inside-choose : (low end n : ℕ) → choose (leb low n && ltb n end) 1 0 ≡ inside low end n
inside-choose low end n =
    by (leb low n)
    (λ p. by (ltb n end)
    (λ q. ap₂ (λ (s t : Bool). choose (s && t) 1 0) p q ∙ sym (inside-yes low end n (leb-true _ _ p) (ltb-true _ _ q)))
    (λ q. ap₂ (λ (s t : Bool). choose (s && t) 1 0) p q ∙ sym (inside-late low end n (ltb-false _ _ q))))
    (λ p. ap (λ (s : Bool). choose (s && ltb n end) 1 0) p ∙ sym (inside-early low end n (leb-false _ _ p)))

-- the same as a test
pub inside-exactly : (low end n : ℕ) → ltb 0 (inside low end n) ≡ (leb low n && ltb n end)
inside-exactly low end n =
    same_test (ltb 0 (inside low end n)) (leb low n && ltb n end)
    (λ e. let f = inside-facts low end n (ltb-true 0 (inside low end n) e) in true-and (le-leb low n f.0) (lt-ltb n end f.1))
    (λ e. let t = and-true (leb low n) (ltb n end) e in lt-ltb 0 (inside low end n) (omega (arith, inside-yes low end n (leb-true _ _ t.0) (ltb-true _ _ t.1))))

-- a range and a number moved up together
pub inside-up : (low end m n : ℕ) → m ≤ n → inside (low + m) (end + m) n ≡ inside low end (n - m)
inside-up low end m n h =
    let p : suc n - (low + m) ≡ suc (n - m) - low = omega arith in
    let q : end + m - n ≡ end - (n - m) = omega arith in
    ap₂ (λ (x y : ℕ). min (min 1 x) (min 1 y)) p q

-- the part of a range below m, and the part from m on, moved down
pub inside-left : (low end m n : ℕ) → n < m → inside low (min end m) n ≡ inside low end n
inside-left low end m n h = let q : ahead (min end m) n ≡ ahead end n = omega arith in ap (λ (x : ℕ). min (reached low n) x) q

reached-right : (low m n : ℕ) → reached (low - m) n ≡ reached low (n + m)
reached-right low m n = omega arith

ahead-right : (end m n : ℕ) → ahead (end - m) n ≡ ahead end (n + m)
ahead-right end m n = omega arith

pub inside-right : (low end m n : ℕ) → inside (low - m) (end - m) n ≡ inside low end (n + m)
inside-right low end m n = ap₂ (λ (x y : ℕ). min x y) (reached-right low m n) (ahead-right end m n)

-- 1 where a prefix covers a number, by where it starts and ends
abbrev pub spans : Prefix → (n : ℕ) → ℕ
spans p n = inside p.first (p.first + 2 ^ p.stars) n

-- a number of the field under a prefix's care word is the start of its block
pub under-care : (b n : ℕ) (p : Prefix) → p.stars ≤ b → n < 2 ^ b → bit_and n (care_word b p) ≡ n / 2 ^ p.stars * 2 ^ p.stars
unfolding care_word
under-care b n p h l =
    let j = b - p.stars in
    let e : b ≡ j + p.stars = omega arith in
    ap (λ (x : ℕ). bit_and n (2 ^ x - 2 ^ p.stars)) e
    ∙ and_high n j p.stars
    ∙ ap (λ (x : ℕ). x * 2 ^ p.stars) (shr_mod j p.stars (subst (λ (x : ℕ). n < 2 ^ x) e l))

-- A number of the field matches a prefix exactly where it is one of the 2^stars numbers from its first on.
pub prefix-matches-exactly : (b n : ℕ) (p : Prefix) → PrefixIn b p → n < 2 ^ b → prefix_matches b p n ≡ (leb p.first n && ltb n (p.first + 2 ^ p.stars))
unfolding prefix_matches
prefix-matches-exactly b n p v l =
    ap (λ (x : ℕ). eqb x p.first) (under-care b n p v.fits l)
    ∙ same_test (eqb (n / 2 ^ p.stars * 2 ^ p.stars) p.first) (leb p.first n && ltb n (p.first + 2 ^ p.stars)) there back
  where
    there : eqb (n / 2 ^ p.stars * 2 ^ p.stars) p.first ≡ true → (leb p.first n && ltb n (p.first + 2 ^ p.stars)) ≡ true
    there e =
        let q : n / 2 ^ p.stars * 2 ^ p.stars ≡ p.first = eqb_yes _ _ e in
        let s : n % 2 ^ p.stars < 2 ^ p.stars = mod-lt n (pow_pos p.stars) in
        let a : p.first ≤ n = omega (arith, q, split n p.stars) in
        let z : n < p.first + 2 ^ p.stars = omega (arith, q, s, split n p.stars) in
        true-and (le-leb _ _ a) (lt-ltb _ _ z)

    back : (leb p.first n && ltb n (p.first + 2 ^ p.stars)) ≡ true → eqb (n / 2 ^ p.stars * 2 ^ p.stars) p.first ≡ true
    back e =
        let t = and-true (leb p.first n) (ltb n (p.first + 2 ^ p.stars)) e in
        let a : p.first ≤ n = leb-true _ _ t.0 in
        let z : n < p.first + 2 ^ p.stars = ltb-true _ _ t.1 in
        let m = p.first / 2 ^ p.stars in
        let f : m * 2 ^ p.stars ≡ p.first = blocks p.first p.stars v.clear in
        let lo : n - p.first < 2 ^ p.stars = omega arith in
        let s : n ≡ m * 2 ^ p.stars + (n - p.first) = omega (arith, f, a) in
        let q : n / 2 ^ p.stars ≡ m = ap (λ (x : ℕ). x / 2 ^ p.stars) s ∙ high m p.stars lo in
        yes_eqb _ _ (ap (λ (x : ℕ). x * 2 ^ p.stars) q ∙ f)

-- ---- how many prefixes of a list cover a number

unfoldable pub held : List Prefix → (n : ℕ) → ℕ
held [] n = 0
held (p ∷ ps) n = spans p n + held ps n

-- these are those that it matches
pub matching-held : (b n : ℕ) (ps : List Prefix) → All (PrefixIn b) ps → n < 2 ^ b → matching b ps n ≡ held ps n
unfolding matching held
matching-held b n [] a l = refl
matching-held b n (p ∷ ps) a l =
    ap₂ (λ (x y : ℕ). x + y) (ap (λ (t : Bool). choose t 1 0) (prefix-matches-exactly b n p a.0 l) ∙ inside-choose p.first (p.first + 2 ^ p.stars) n) (matching-held b n ps a.1 l)

pub held-append : (n : ℕ) (xs ys : List Prefix) → held (xs ++ ys) n ≡ held xs n + held ys n
unfolding held
held-append n [] ys = omega arith
held-append n (x ∷ xs) ys = omega (arith, held-append n xs ys)

-- prefixes moved up cover nothing below, and above it what they covered
pub held_below : (m n : ℕ) (ps : List Prefix) → n < m → held (map (shifted m) ps) n ≡ 0
unfolding held
held_below m n [] h = refl
held_below m n (p ∷ ps) h = omega (arith, held_below m n ps h)

pub held-above : (m n : ℕ) (ps : List Prefix) → m ≤ n → held (map (shifted m) ps) n ≡ held ps (n - m)
unfolding held
held-above m n [] h = refl
held-above m n (p ∷ ps) h =
    let e : p.first + m + 2 ^ p.stars ≡ p.first + 2 ^ p.stars + m = omega arith in
    ap₂ (λ (x y : ℕ). x + y) (ap (λ (x : ℕ). inside (p.first + m) x n) e ∙ inside-up p.first (p.first + 2 ^ p.stars) m n h) (held-above m n ps h)

-- prefixes of a field cover nothing past it
pub held-past : (b n : ℕ) (ps : List Prefix) → All (PrefixIn b) ps → 2 ^ b ≤ n → held ps n ≡ 0
unfolding held
held-past b n [] a h = refl
held-past b n (p ∷ ps) a h = omega (arith, held-past b n ps a.1 h, prefix-end b p a.0)
