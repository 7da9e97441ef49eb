-- The theorems of ranges, in the words of the definitions: what the prefixes of a range cover, in which order, and that they are the fewest.
use mathlib.Core.Path.{◌≡◌, refl, sym, ap, ◌∙◌}
use mathlib.Core.List.{List, [], ◌∷◌, map}
use mathlib.Core.Bool.{Bool, true, false, ◌&&◌}
use Prim.Native.Nat.{ℕ, zero, suc, ◌+◌, ◌-◌, ◌*◌, ◌^◌, ◌≤◌, ◌<◌, min, max}
use native.Mathlib.Omega.{arith}
use native.Mathlib.Nat.{pow-suc}
use lib.Pow.{pow_pos}
use lib.Dec.{eqb, leb, ltb}
use lib.ListN.{length, length-map, take, drop}
use lib.Seq.{take_at, drop_at}
use borrow.Author.Tests.{leb-true, ltb-true, ltb-false, le-leb, lt-ltb}
use Rattle.words.proofs.Tests.{split as by, same_test}
use Rattle.rules.specs.declared.Refusal.{Refusal}
use Rattle.rules.specs.Rules.{rule, choose, matches, no_match, Valid}
use Rattle.rules.specs.Lists.{All, Pairs}
use Rattle.std.specs.Prelude.{Ok, Err}
use Rattle.rules.specs.Replies.{Reply, Gives, Refuses, passed, need, ◌then◌, number_of, number_reply, unless_refused}
use Rattle.rules.specs.Checks.{room_check}
use Rattle.rules.proofs.ReplyLaws.{gives-refuses, then_next, then-refuses, then-second, bare-first, one_value}
use Rattle.rules.proofs.CheckLaws.{room-yes}
use Rattle.ranges.specs.Prefixes.{Prefix, PrefixIn, care_word, value_word, prefix_matches, matching, in_range, CoversExactly, Before}
use Rattle.ranges.specs.Ranges.{covering, range_prefixes}
use Rattle.ranges.specs.Calls.{widest_field, field_check, bounds_check, check_range, same_length_check, prefix_count_reply, prefixes_check, prefixes_reply, words_put, PrefixesDone}
use Rattle.ranges.proofs.PrefixLaws.{blocks, under-care, care-fits, inside, inside-choose, inside-exactly, inside-late, held-past, matching-held, held}
use Rattle.ranges.proofs.RangeLaws.{range-fits, range-once, range-rising}
use Rattle.ranges.proofs.FewLaws.{range-few, all-but-both}
use Rattle.ranges.proofs.FewestLaws.{Covers, range-least, range-alone}
use Rattle.ranges.proofs.CallLaws.{bare-range, ranged, check-room, check-prefixes}

-- A number matches a prefix exactly where, as a header, it matches a rule with the prefix's two words.
pub matches-as-a-rule : (b n d : ℕ) (p : Prefix) → prefix_matches b p n ≡ matches (rule (care_word b p) (value_word p) d) n
unfolding prefix_matches matches
matches-as-a-rule b n d p = refl

-- And these two words, with any decision that is one, are a rule of the field's width, so that it passes its checks (`valid-rule` of rules).
pub prefix-valid : (b d : ℕ) (p : Prefix) → PrefixIn b p → d < no_match → Valid b (rule (care_word b p) (value_word p) d)
prefix-valid b d p v h =
    record {
      within = under-care b p.first p v.fits v.within ∙ blocks p.first p.stars v.clear;
      fits = care-fits b p;
      decides = h;
    }

-- a number is at most `high` where it is less than the next one
below_next : (n high : ℕ) → leb n high ≡ ltb n (high + 1)
below_next n high =
    same_test (leb n high) (ltb n (high + 1))
    (λ e. let h : n ≤ high = leb-true n high e in lt-ltb n (high + 1) (omega arith))
    (λ e. let h : n < high + 1 = ltb-true n (high + 1) e in le-leb n high (omega arith))

in-range : (low high n : ℕ) → in_range low high n ≡ (leb low n && ltb n (high + 1))
in-range low high n = ap (λ (t : Bool). leb low n && t) (below_next n high)

-- two numbers that are both 0 or both not, the second at most 1: the first, cut at 1, is the second
same_sign : (x y : ℕ) → y ≤ 1 → ltb 0 x ≡ ltb 0 y → min 1 x ≡ y
same_sign x y h e =
    by (ltb 0 x)
    (λ t. let p : 0 < x = ltb-true 0 x t in let q : 0 < y = ltb-true 0 y (sym e ∙ t) in omega arith)
    (λ f. let p : x ≤ 0 = ltb-false 0 x f in let q : y ≤ 0 = ltb-false 0 y (sym e ∙ f) in omega arith)

-- The prefixes of a range as they are counted from where each starts and ends.
covers-all : (b low end : ℕ) (ps : List Prefix) → end ≤ 2 ^ b → All (PrefixIn b) ps
    → ((n : ℕ) → n < 2 ^ b → ltb 0 (matching b ps n) ≡ (leb low n && ltb n end)) → Covers low end ps
covers-all b low end ps h a c n =
    by (ltb n (2 ^ b))
    (λ t. let l : n < 2 ^ b = ltb-true _ _ t in
    same_sign (held ps n) (inside low end n) (omega arith) (ap (ltb 0) (sym (matching-held b n ps a l)) ∙ c n l ∙ sym (inside-exactly low end n)))
    (λ f. let l : 2 ^ b ≤ n = ltb-false _ _ f in ap (min 1) (held-past b n ps a l) ∙ sym (inside-late low end n (omega arith)))

module _ (b low high : ℕ) (h : high < 2 ^ b) where
  ends : high + 1 ≤ 2 ^ b
  ends = omega arith

  -- They are prefixes of the field.
  pub range-fit : All (PrefixIn b) (range_prefixes b low high)
  range-fit = range-fits b low (high + 1) ends

  counted : (n : ℕ) → n < 2 ^ b → matching b (range_prefixes b low high) n ≡ inside low (high + 1) n
  counted n l = matching-held b n _ range-fit l ∙ range-once b low (high + 1) ends n

  -- A number of the field that lies in the range matches one of them and no other; one that does not matches none.
  pub range-exactly : (n : ℕ) → n < 2 ^ b → matching b (range_prefixes b low high) n ≡ choose (in_range low high n) 1 0
  range-exactly n l = counted n l ∙ sym (inside-choose low (high + 1) n) ∙ ap (λ (t : Bool). choose t 1 0) (sym (in-range low high n))

  -- So they cover the range exactly.
  pub range-covers : CoversExactly b low high (range_prefixes b low high)
  range-covers n l = ap (ltb 0) (counted n l) ∙ inside-exactly low (high + 1) n ∙ sym (in-range low high n)

  -- They rise, and no two overlap: each ends before the next starts.
  pub range-rises : Pairs Before (range_prefixes b low high)
  range-rises = range-rising b low (high + 1) ends

  any-covers : (ps : List Prefix) → All (PrefixIn b) ps → CoversExactly b low high ps → Covers low (high + 1) ps
  any-covers ps a c = covers-all b low (high + 1) ps ends a (λ n l. c n l ∙ in-range low high n)

  -- No list of prefixes of the field that covers the range exactly, whether they overlap or not, has fewer.
  pub range-fewest : (ps : List Prefix) → All (PrefixIn b) ps → CoversExactly b low high ps → length (range_prefixes b low high) ≤ length ps
  range-fewest ps a c = range-least b low (high + 1) ends ps a (any-covers ps a c)

  -- And no other list does it that rises and has no more: what was asked for has one answer.
  pub range-only : (ps : List Prefix) → All (PrefixIn b) ps → CoversExactly b low high ps → Pairs Before ps → length ps ≤ length (range_prefixes b low high)
      → ps ≡ range_prefixes b low high
  range-only ps a c r s = range-alone b low (high + 1) ends ps a (any-covers ps a c) r s

  -- There are never more than 2 * bits - 2 of them, and in a field of one bit never more than one.
  pub range-at-most : length (range_prefixes b low high) ≤ max 1 (b * 2 - 2)
  range-at-most = range-few b low (high + 1) ends

-- ---- the room for them

-- A good range with two slices of so many places is answered.
pub room-enough : (b low high : ℕ) (cs vs : List ℕ) → check_range b low high ≡ passed → length cs ≡ length vs → max 1 (b * 2 - 2) ≤ length cs
    → prefixes_reply b low high cs vs ≡ Gives (length (range_prefixes b low high) ∷ [])
unfolding prefixes_reply
room-enough b low high cs vs e s r =
    then_next _ _ (check-prefixes b low high cs vs e s (omega (arith, r, range-at-most b low high (ranged b low high e).within)))

-- And no less is enough for every range: in a field of two bits or more, all numbers but the first and the last take 2 * bits - 2.
pub room-needed : (b : ℕ) → 1 < b → length (range_prefixes b 1 (2 ^ b - 2)) ≡ b * 2 - 2
room-needed zero h = absurd (omega arith)
room-needed (suc b) h =
    let s : 0 < 2 ^ b = pow_pos b in
    let e : 2 ^ suc b - 2 + 1 ≡ 2 ^ suc b - 1 = omega (arith, pow-suc 2 b, s) in
    ap (λ (x : ℕ). length (covering (suc b) 1 x)) e ∙ all-but-both b

-- a reply is not refusal 7
abbrev NotSeven : Reply → Type 0
NotSeven a = (l r : ℕ) → a ≡ Refuses 7 l r → ⊥

other-number : (t : Bool) (n i j : ℕ) → (n ≡ 7 → ⊥) → NotSeven (need t n i j)
other-number true n i j h l r e = gives-refuses e
other-number false n i j h l r e = h cc

nor-next : (a b : Reply) → NotSeven a → (((ns : List ℕ) × (a ≡ Gives ns)) → NotSeven b) → NotSeven (a then b)
nor-next (Gives ns) b f g l r e = g (ns, refl) l r e
nor-next (Refuses n i j) b f g l r e = f l r e

range-not-seven : (b low high : ℕ) → NotSeven (check_range b low high)
unfolding check_range field_check bounds_check
range-not-seven b low high =
    nor-next (field_check b) (bounds_check b low high) (other-number (leb 1 b && leb b widest_field) 1 0 0 (λ e. omega arith))
    (λ g. other-number (leb low high && ltb high (2 ^ b)) 20 0 0 (λ e. omega arith))

room-not-seven : (n m : ℕ) → n ≤ m → NotSeven (room_check n m)
room-not-seven n m h l r e = gives-refuses (sym (room-yes n m h) ∙ e)

-- No call with so many places is refused 7, whatever else it is given.
pub never-seven : (b low high : ℕ) (cs vs : List ℕ) → max 1 (b * 2 - 2) ≤ length cs → NotSeven (prefixes_reply b low high cs vs)
unfolding prefixes_reply prefixes_check same_length_check
never-seven b low high cs vs room = nor-next (prefixes_check b low high cs vs) _ checks (λ g l r e. gives-refuses e)
  where
    checks : NotSeven (prefixes_check b low high cs vs)
    checks =
        nor-next (check_range b low high) _ (range-not-seven b low high)
        (λ g.
        let p = (ranged b low high (bare-range b low high g.0 g.1)).within in
        nor-next (same_length_check cs vs) _ (other-number (eqb (length cs) (length vs)) 2 0 0 (λ e. omega arith))
        (λ s. room-not-seven _ _ (omega (arith, room, range-at-most b low high p))))

-- so of the call: a refusal that it gives is another one
pub call-never-seven : (b low high : ℕ) (cs vs cs' vs' : List ℕ) (x : Refusal) → PrefixesDone b low high cs vs cs' vs' (Err x)
    → max 1 (b * 2 - 2) ≤ length cs → number_of x.reason ≡ 7 → ⊥
call-never-seven b low high cs vs cs' vs' x d room e =
    never-seven b low high cs vs room x.list x.rule (sym d.reply ∙ ap (λ (n : ℕ). Refuses n x.list x.rule) e)

-- ---- the number first, and then the prefixes

-- What `range_prefix_count` answers is the number of the range's prefixes.
pub count-told : (b low high n : ℕ) → number_reply (Ok n) ≡ prefix_count_reply b low high → (check_range b low high ≡ passed) × (n ≡ length (range_prefixes b low high))
unfolding prefix_count_reply
count-told b low high n e = (
  bare-first (check_range b low high) _ (bare-range b low high) (n ∷ []) (sym e),
  sym (one_value (then-second (check_range b low high) _ (n ∷ []) (sym e))),
)

-- With so many places in both slices `range_prefixes` answers the same number, and with fewer it is refused 7.
pub counted-answered : (b low high n : ℕ) (cs vs : List ℕ) → number_reply (Ok n) ≡ prefix_count_reply b low high
    → length cs ≡ length vs → n ≤ length cs → prefixes_reply b low high cs vs ≡ Gives (n ∷ [])
unfolding prefixes_reply
counted-answered b low high n cs vs e s r =
    let t = count-told b low high n e in
    then_next _ _ (check-prefixes b low high cs vs t.0 s (omega (arith, r, t.1))) ∙ ap (λ (k : ℕ). Gives (k ∷ [])) (sym t.1)

pub counted-refused : (b low high n : ℕ) (cs vs : List ℕ) → number_reply (Ok n) ≡ prefix_count_reply b low high
    → length cs ≡ length vs → length cs < n → prefixes_reply b low high cs vs ≡ Refuses 7 0 0
unfolding prefixes_reply
counted-refused b low high n cs vs e s r =
    let t = count-told b low high n e in
    then-refuses _ _ (check-room b low high cs vs t.0 s (omega (arith, r, t.1)))

-- ---- what an answered call leaves

-- The first places of both slices have the words of the prefixes, as many as the call says, and the later places what they had.
pub record PrefixesWritten (b low high : ℕ) (cs vs cs' vs' : List ℕ) (n : ℕ) : Type 0 where
  pub count : n ≡ length (range_prefixes b low high)
  pub cares : take n cs' ≡ map (care_word b) (range_prefixes b low high)
  pub values : take n vs' ≡ map value_word (range_prefixes b low high)
  pub cares-after : drop n cs' ≡ drop n cs
  pub values-after : drop n vs' ≡ drop n vs

put_front : (f : Prefix → ℕ) (ps : List Prefix) (old : List ℕ) (n : ℕ) → n ≡ length ps → take n (words_put f ps old) ≡ map f ps
unfolding words_put
put_front f ps old n e = take_at (map f ps) (drop (length ps) old) n (length-map ps f ∙ sym e)

put_back : (f : Prefix → ℕ) (ps : List Prefix) (old : List ℕ) (n : ℕ) → n ≡ length ps → drop n (words_put f ps old) ≡ drop n old
unfolding words_put
put_back f ps old n e = drop_at (map f ps) (drop (length ps) old) n (length-map ps f ∙ sym e) ∙ ap (λ (k : ℕ). drop k old) (sym e)

pub prefixes-written : (b low high : ℕ) (cs vs cs' vs' : List ℕ) (n : ℕ) → PrefixesDone b low high cs vs cs' vs' (Ok n) → PrefixesWritten b low high cs vs cs' vs' n
unfolding prefixes_reply
prefixes-written b low high cs vs cs' vs' n d =
    let said : prefixes_reply b low high cs vs ≡ Gives (n ∷ []) = sym d.reply in
    let e : n ≡ length (range_prefixes b low high) = sym (one_value (then-second (prefixes_check b low high cs vs) _ (n ∷ []) said)) in
    let c : cs' ≡ words_put (care_word b) (range_prefixes b low high) cs = d.cares ∙ ap (λ (r : Reply). unless_refused r (words_put (care_word b) (range_prefixes b low high) cs) cs) said in
    let v : vs' ≡ words_put value_word (range_prefixes b low high) vs = d.values ∙ ap (λ (r : Reply). unless_refused r (words_put value_word (range_prefixes b low high) vs) vs) said in
    record {
      count = e;
      cares = ap (take n) c ∙ put_front (care_word b) (range_prefixes b low high) cs n e;
      values = ap (take n) v ∙ put_front value_word (range_prefixes b low high) vs n e;
      cares-after = ap (drop n) c ∙ put_back (care_word b) (range_prefixes b low high) cs n e;
      values-after = ap (drop n) v ∙ put_back value_word (range_prefixes b low high) vs n e;
    }
