-- No list of prefixes of the field, overlapping or not, that covers exactly a range has fewer than the range's own, and no other list that
-- rises has as few.
use mathlib.Core.Path.{◌≡◌, refl, sym, ap, ap₂, ◌∙◌, subst}
use mathlib.Core.List.{List, [], ◌∷◌, ◌++◌, map}
use Prim.Native.Nat.{ℕ, suc, ◌+◌, ◌-◌, ◌%◌, ◌^◌, ◌≤◌, ◌<◌, min}
use native.Mathlib.Omega.{arith}
use native.Mathlib.Nat.{pow-suc, mod-eq_of_lt, zero-add}
use lib.Dec.{ltb}
use lib.Pow.{pow_pos}
use lib.ListN.{length}
use borrow.Author.Tests.{ltb-true, ltb-false}
use Rattle.words.proofs.Tests.{split as by}
use Rattle.rules.specs.Lists.{All, Pairs}
use Rattle.rules.proofs.EntryLaws.{all_map, pairs-front, pairs-back, pairs-before}
use Rattle.ranges.specs.Prefixes.{Prefix, prefix, PrefixIn, Before}
use Rattle.ranges.specs.Ranges.{shifted, covering}
use Rattle.ranges.proofs.PrefixLaws.{inside, inside-yes, inside-early, inside-late, inside-facts, inside-left, inside-right, inside-up, spans, held, held-past, prefix-end, clear-before}
use Rattle.ranges.proofs.StepLaws.{exponent}
use Rattle.ranges.proofs.RangeLaws.{before-still}
use Rattle.ranges.proofs.CoverLaws.{WholeField, parts-length, Fact, None, OfWhole, OfParts, every-range}

-- A list covers exactly the numbers from low on and below the end, each once or more often.
abbrev pub Covers : (low end : ℕ) → List Prefix → Type 0
Covers low end qs = (n : ℕ) → min 1 (held qs n) ≡ inside low end n

abbrev Fewest : Fact
Fewest b low end ps = (qs : List Prefix) → All (PrefixIn b) qs → Covers low end qs → length ps ≤ length qs

-- a field takes a prefix
no-prefix : (b : ℕ) → Covers 0 (2 ^ b) [] → ⊥
unfolding held
no-prefix b c = omega (arith, c 0, inside-yes 0 (2 ^ b) 0 (omega arith) (pow_pos b))

fewest-whole : OfWhole Fewest
fewest-whole b [] a c = absurd (no-prefix b c)
fewest-whole b (q ∷ qs) a c = omega arith

-- ---- prefixes of both halves

-- A list without the prefix that is all stars, taken apart: what it covers in the left half, and in the right half, moved down.
record Halves (b : ℕ) (qs : List Prefix) : Type 0 where
  left : List Prefix
  right : List Prefix
  lefts : All (PrefixIn b) left
  rights : All (PrefixIn b) right
  size : length left + length right ≡ length qs
  low : (n : ℕ) → n < 2 ^ b → held qs n ≡ held left n
  high : (n : ℕ) → held qs (n + 2 ^ b) ≡ held right n
  none : All (λ (q : Prefix). 2 ^ b ≤ q.first) qs → left ≡ []
  joined : Pairs Before qs → qs ≡ left ++ map (shifted (2 ^ b)) right

abbrev lowered : (n : ℕ) → Prefix → Prefix
lowered n p = prefix p.stars (p.first - n)

-- a prefix of the left half more
module _ (b : ℕ) (q : Prefix) (v : PrefixIn (suc b) q) (s : q.stars ≤ b) (qs : List Prefix) (x : Halves b qs) where
  of_left : q.first < 2 ^ b → PrefixIn b q
  of_left l = record { fits = s; within = l; clear = v.clear }

  more_left : q.first < 2 ^ b → Halves b (q ∷ qs)
  unfolding held
  more_left l =
      let e : q.first + 2 ^ q.stars ≤ 2 ^ b = prefix-end b q (of_left l) in
      record {
        left = q ∷ x.left;
        right = x.right;
        lefts = (of_left l, x.lefts);
        rights = x.rights;
        size = omega (arith, x.size);
        low = λ n h. ap (λ (k : ℕ). spans q n + k) (x.low n h);
        high = λ n. ap₂ (λ (i k : ℕ). i + k) (inside-late q.first (q.first + 2 ^ q.stars) (n + 2 ^ b) (omega arith)) (x.high n) ∙ zero-add _;
        none = λ a. absurd (omega (arith, l, a.0));
        joined = λ p. ap (λ (rs : List Prefix). q ∷ rs) (x.joined p.1);
      }

  -- or of the right half
  of_right : 2 ^ b ≤ q.first → PrefixIn b (lowered (2 ^ b) q)
  of_right l =
      record { fits = s; within = omega (arith, v.within, pow-suc 2 b, l); clear = clear-before b q.stars q.first s l ∙ v.clear }

  moved : 2 ^ b ≤ q.first → (n : ℕ) → spans q (n + 2 ^ b) ≡ spans (lowered (2 ^ b) q) n
  moved l n =
      let f : q.first ≡ q.first - 2 ^ b + 2 ^ b = omega arith in
      let e : q.first + 2 ^ q.stars ≡ q.first - 2 ^ b + 2 ^ q.stars + 2 ^ b = omega arith in
      let z : n + 2 ^ b - 2 ^ b ≡ n = omega arith in
      ap₂ (λ (i k : ℕ). inside i k (n + 2 ^ b)) f e
      ∙ inside-up (q.first - 2 ^ b) (q.first - 2 ^ b + 2 ^ q.stars) (2 ^ b) (n + 2 ^ b) (omega arith)
      ∙ ap (λ (i : ℕ). inside (q.first - 2 ^ b) (q.first - 2 ^ b + 2 ^ q.stars) i) z

  -- after it there is none of the left half, where the list rises
  joined-right : 2 ^ b ≤ q.first → Pairs Before (q ∷ qs) → q ∷ qs ≡ x.left ++ map (shifted (2 ^ b)) (lowered (2 ^ b) q ∷ x.right)
  joined-right l p =
      let z : x.left ≡ [] = x.none (all_map (Before q) (λ (r : Prefix). 2 ^ b ≤ r.first) (λ r h. omega arith) qs p.0) in
      let f : q.first ≡ q.first - 2 ^ b + 2 ^ b = omega arith in
      ap₂ (λ (i : ℕ) (rs : List Prefix). prefix q.stars i ∷ rs) f (x.joined p.1 ∙ ap (λ (rs : List Prefix). rs ++ map (shifted (2 ^ b)) x.right) z)
      ∙ ap (λ (rs : List Prefix). rs ++ map (shifted (2 ^ b)) (lowered (2 ^ b) q ∷ x.right)) (sym z)

  more-right : 2 ^ b ≤ q.first → Halves b (q ∷ qs)
  unfolding held
  more-right l =
      record {
        left = x.left;
        right = lowered (2 ^ b) q ∷ x.right;
        lefts = x.lefts;
        rights = (of_right l, x.rights);
        size = omega (arith, x.size);
        low = λ n h. ap₂ (λ (i k : ℕ). i + k) (inside-early q.first (q.first + 2 ^ q.stars) n (omega arith)) (x.low n h) ∙ zero-add _;
        high = λ n. ap₂ (λ (i k : ℕ). i + k) (moved l n) (x.high n);
        none = λ a. x.none a.1;
        joined = joined-right l;
      }

halves : (b : ℕ) (qs : List Prefix) → All (PrefixIn (suc b)) qs → All (λ (q : Prefix). q.stars ≤ b) qs → Halves b qs
unfolding held
halves b [] a s = record { left = []; right = []; lefts = tt; rights = tt; size = refl; low = λ n h. refl; high = λ n. refl; none = λ a. refl; joined = λ p. refl }
halves b (q ∷ qs) a s =
    let x = halves b qs a.1 s.1 in
    by (ltb q.first (2 ^ b)) (λ t. more_left b q a.0 s.0 qs x (ltb-true _ _ t)) (λ f. more-right b q a.0 s.0 qs x (ltb-false _ _ f))

-- ---- a range that is not the whole field

-- a prefix that is all stars covers every number of the field
all-stars : (b : ℕ) (q : Prefix) → PrefixIn b q → b ≤ q.stars → (n : ℕ) → n < 2 ^ b → spans q n ≡ 1
all-stars b q v s n h =
    let e : q.stars ≡ b = omega (arith, v.fits) in
    let f : q.first ≡ 0 = sym (mod-eq_of_lt v.within) ∙ ap (λ (x : ℕ). q.first % 2 ^ x) (sym e) ∙ v.clear in
    inside-yes q.first (q.first + 2 ^ q.stars) n (omega arith) (omega (arith, h, ap (λ (x : ℕ). 2 ^ x) e))

-- so a list that covers less has none
module _ (b low end : ℕ) (w : WholeField b low end → ⊥) (h : end ≤ 2 ^ b) where
  fewer-stars : (q : Prefix) → PrefixIn b q → ((n : ℕ) → 0 < spans q n → (low ≤ n) × (n < end)) → q.stars < b
  fewer-stars q v f =
      by (ltb q.stars b) (λ t. ltb-true _ _ t)
      (λ g.
      let some : 0 < 2 ^ b = pow_pos b in
      let s : b ≤ q.stars = ltb-false _ _ g in
      let x = f 0 (omega (arith, all-stars b q v s 0 some)) in
      let y = f (2 ^ b - 1) (omega (arith, all-stars b q v s (2 ^ b - 1) (omega arith))) in
      absurd (w (omega (arith, x.0), omega (arith, y.1))))

  all-fewer : (qs : List Prefix) → All (PrefixIn b) qs → ((n : ℕ) → 0 < held qs n → (low ≤ n) × (n < end)) → All (λ (q : Prefix). q.stars < b) qs
  unfolding held
  all-fewer [] a f = tt
  all-fewer (q ∷ qs) a f = (fewer-stars q a.0 (λ n p. f n (omega arith)), all-fewer qs a.1 (λ n p. f n (omega arith)))

covers-facts : (low end : ℕ) (qs : List Prefix) → Covers low end qs → (n : ℕ) → 0 < held qs n → (low ≤ n) × (n < end)
covers-facts low end qs c n p = let e : min 1 (held qs n) ≡ inside low end n = c n in inside-facts low end n (omega arith)

module _ (b low end : ℕ) (qs : List Prefix) (x : Halves b qs) (c : Covers low end qs) where
  covers-left : Covers low (min end (2 ^ b)) x.left
  covers-left n =
      by (ltb n (2 ^ b))
      (λ t. let s : n < 2 ^ b = ltb-true _ _ t in ap (λ (k : ℕ). min 1 k) (sym (x.low n s)) ∙ c n ∙ sym (inside-left low end (2 ^ b) n s))
      (λ f. let s : 2 ^ b ≤ n = ltb-false _ _ f in ap (λ (k : ℕ). min 1 k) (held-past b n x.left x.lefts s) ∙ sym (inside-late low (min end (2 ^ b)) n (omega arith)))

  covers-right : Covers (low - 2 ^ b) (end - 2 ^ b) x.right
  covers-right n = ap (λ (k : ℕ). min 1 k) (sym (x.high n)) ∙ c (n + 2 ^ b) ∙ sym (inside-right low end (2 ^ b) n)

abbrev taken-apart : (b low end : ℕ) (qs : List Prefix) → (WholeField (suc b) low end → ⊥) → end ≤ 2 ^ suc b → All (PrefixIn (suc b)) qs → Covers low end qs → Halves b qs
taken-apart b low end qs w h a c = halves b qs a (all_map _ _ (λ r s. omega arith) qs (all-fewer (suc b) low end w h qs a (covers-facts low end qs c)))

fewest-parts : OfParts Fewest
fewest-parts b low end left right w l h p q qs a c =
    let x = taken-apart b low end qs w h a c in
    omega (
      arith,
      parts-length (2 ^ b) left right,
      x.size,
      p x.left x.lefts (covers-left b low end qs x c),
      q x.right x.rights (covers-right b low end qs x c),
    )

-- ---- no other list

-- A list that covers the range, rises and has no more prefixes is the same list.
abbrev Only : Fact
Only b low end ps = (qs : List Prefix) → All (PrefixIn b) qs → Covers low end qs → Pairs Before qs → length qs ≤ length ps → qs ≡ ps

only_none : None Only
only_none b low end h [] a c r s = refl
only_none b low end h (q ∷ qs) a c r s = absurd (omega arith)

-- a prefix that covers a range by itself covers each of its numbers
not_none : (x y : ℕ) → min 1 (x + 0) ≡ y → y ≡ 1 → 0 < x
not_none x y e f = omega arith

by_itself : (low end : ℕ) (q : Prefix) → Covers low end (q ∷ []) → (n : ℕ) → low ≤ n → n < end → (q.first ≤ n) × (n < q.first + 2 ^ q.stars)
unfolding held
by_itself low end q c n l h =
    inside-facts q.first (q.first + 2 ^ q.stars) n (not_none (spans q n) (inside low end n) (c n) (inside-yes low end n l h))

-- so one that covers the whole field is all stars
only-star : (b : ℕ) (q : Prefix) → PrefixIn b q → Covers 0 (2 ^ b) (q ∷ []) → q ≡ prefix b 0
only-star b q v c =
    let some : 0 < 2 ^ b = pow_pos b in
    let z : q.first ≡ 0 = omega (arith, (by_itself 0 (2 ^ b) q c 0 (omega arith) some).0) in
    let l : 2 ^ b ≤ 2 ^ q.stars = omega (arith, z, (by_itself 0 (2 ^ b) q c (2 ^ b - 1) (omega arith) (omega arith)).1) in
    let e : q.stars ≡ b = omega (arith, v.fits, exponent b q.stars l) in
    ap₂ prefix e z

only-whole : OfWhole Only
only-whole b [] a c r s = absurd (no-prefix b c)
only-whole b (q ∷ []) a c r s = ap (λ (p : Prefix). p ∷ []) (only-star b q a.0 c)
only-whole b (q ∷ p ∷ qs) a c r s = absurd (omega arith)

-- both facts together: what has no fewer and no more in both halves has as many in each
abbrev Best : Fact
Best b low end ps = Fewest b low end ps × Only b low end ps

only_parts : OfParts Best
only_parts b low end left right w l h p q = (fewest-parts b low end left right w l h p.0 q.0, only)
  where
    only : Only (suc b) low end (left ++ map (shifted (2 ^ b)) right)
    only qs a c r s =
        let x = taken-apart b low end qs w h a c in
        let cl = covers-left b low end qs x c in
        let cr = covers-right b low end qs x c in
        let j : qs ≡ x.left ++ map (shifted (2 ^ b)) x.right = x.joined r in
        let rj = subst (Pairs Before) j r in
        let fl : length left ≤ length x.left = p.0 x.left x.lefts cl in
        let fr : length right ≤ length x.right = q.0 x.right x.rights cr in
        let total : length x.left + length x.right ≤ length left + length right = omega (arith, s, x.size, parts-length (2 ^ b) left right) in
        let el : x.left ≡ left = p.1 x.left x.lefts cl (pairs-front Before x.left _ rj) (omega (arith, fl, fr, total)) in
        let er : x.right ≡ right = q.1 x.right x.rights cr (pairs-before (shifted (2 ^ b)) Before Before (before-still (2 ^ b)) x.right (pairs-back Before x.left _ rj)) (omega (arith, fl, fr, total)) in
        j ∙ ap₂ (λ (xs ys : List Prefix). xs ++ map (shifted (2 ^ b)) ys) el er

best : (b low end : ℕ) → end ≤ 2 ^ b → Best b low end (covering b low end)
best = every-range Best (λ b low end h. ((λ qs a c. omega arith), only_none b low end h)) (λ b. (fewest-whole b, only-whole b)) only_parts

pub range-least : (b low end : ℕ) → end ≤ 2 ^ b → (qs : List Prefix) → All (PrefixIn b) qs → Covers low end qs → length (covering b low end) ≤ length qs
range-least b low end h = (best b low end h).0

pub range-alone : (b low end : ℕ) → end ≤ 2 ^ b → (qs : List Prefix) → All (PrefixIn b) qs → Covers low end qs → Pairs Before qs
    → length qs ≤ length (covering b low end) → qs ≡ covering b low end
range-alone b low end h = (best b low end h).1
