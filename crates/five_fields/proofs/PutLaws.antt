-- Laws of putting entries into the result slices, one after the other, and from the rules that the slices hold to each slice.
use mathlib.Core.Path.{◌≡◌, refl, sym, ap, ap₂, ◌∙◌}
use mathlib.Core.List.{List, [], ◌∷◌, ◌++◌, map, map-append, flat_map}
use Prim.Native.Nat.{ℕ, suc, ◌+◌, ◌*◌, ◌-◌, ◌≤◌, ◌<◌}
use native.Mathlib.Omega.{arith}
use native.Mathlib.Numerals.{add-one}
use lib.ListN.{length, take, drop, get_or, set, length-map, drop_of_length-le}
use lib.Seq.{sets, sets-eq, drop-cons}
use Rattle.words.specs.Slices.{halves_of}
use Rattle.words.proofs.SliceLaws.{Machine, halves-append, halves-length, halves-drop}
use Rattle.rules.specs.declared.Rule.{Rule as Held}
use Rattle.rules.specs.Rule.{Rule, held}
use Rattle.rules.specs.Slices.{rules_of, care_of, value_of, decision_of, cares_of, values_of, decisions_of, Lent, Placed, filled}
use Rattle.rules.proofs.EntryLaws.{map-drop}
use Rattle.rules.proofs.SliceLaws.{told, Kept, kept-lent, placed-rules, placed-kept, rules-length, rules-care, rules-value, rules-decision}
use Rattle.ranges.specs.Prefixes.{Prefix, care_word, value_word}
use Rattle.ranges.specs.Ranges.{range_prefixes}
use Rattle.five_fields.specs.FiveFieldRule.{FiveFieldRule}
use Rattle.five_numbers.specs.Fields.{port_bits}
use Rattle.five_fields.specs.Slices.{Slices, rows, rule_at, rules_from, rules_in}
use Rattle.five_fields.specs.Expansion.{entry, source_prefixes, destination_prefixes, expansion, expanded}
use Rattle.five_fields.specs.Inner.{entry_by, entries_inside, entries_by, Put, PortWords}
use Rattle.five_fields.proofs.ListLaws.{sets-append, rules-next, rules-none}
use Rattle.five_fields.proofs.CountLaws.{expansion-count, left-count}

-- ---- putting, step by step

-- All of `all` is to be put from place `from` on into slices that held c₀, v₀ and d₀; of it `rest` is left, from place `at` on.
pub record Putting (from : ℕ) (all : List Rule) (c₀ v₀ d₀ : List ℕ) (at : ℕ) (rest : List Rule) (c v d : List ℕ) : Type 0 where
  pub kept : Kept c₀ v₀ d₀ c v d
  pub rules : sets (rules_of c v d) at rest ≡ sets (rules_of c₀ v₀ d₀) from all

module _ (from : ℕ) (all : List Rule) (c₀ v₀ d₀ : List ℕ) (at : ℕ) where
  pub putting-none : (rest : List Rule) (c v d : List ℕ) → rest ≡ [] → Putting from all c₀ v₀ d₀ at rest c v d → Put from all c₀ v₀ d₀ c v d
  putting-none rest c v d e p =
      record {
        cares = p.kept.cares;
        values = p.kept.values;
        decisions = p.kept.decisions;
        rules = ap (sets (rules_of c v d) at) (sym e) ∙ p.rules;
      }

  -- some entries of what is left are put
  pub putting-some : (rest es later : List Rule) (c v d c' v' d' : List ℕ) → rest ≡ es ++ later → Putting from all c₀ v₀ d₀ at rest c v d
      → Put at es c v d c' v' d' → (next : ℕ) → next ≡ at + length es → Putting from all c₀ v₀ d₀ next later c' v' d'
  putting-some rest es later c v d c' v' d' e p q next f =
      record {
        kept = record { cares = q.cares ∙ p.kept.cares; values = q.values ∙ p.kept.values; decisions = q.decisions ∙ p.kept.decisions };
        rules =
            ap₂ (λ (l : List Rule) (k : ℕ). sets l k later) q.rules f
            ∙ sym (sets-append (rules_of c v d) at es later)
            ∙ ap (sets (rules_of c v d) at) (sym e)
            ∙ p.rules;
      }

-- entries by another name
pub put_same : {at : ℕ} {es fs : List Rule} {c v d c' v' d' : List ℕ} → es ≡ fs → Put at es c v d c' v' d' → Put at fs c v d c' v' d'
put_same {at} {es} {fs} {c} {v} {d} e p =
    record { cares = p.cares; values = p.values; decisions = p.decisions; rules = p.rules ∙ ap (sets (rules_of c v d) at) e }

-- one rule that is put
pub put_one : (at : ℕ) (e : Rule) (c v d c' v' d' : List ℕ) (r : Held) → r ≡ held e → Placed c v d at r c' v' d' → Put at (e ∷ []) c v d c' v' d'
put_one at e c v d c' v' d' r h p =
    let k = placed-kept c v d at r c' v' d' p in
    record {
      cares = k.cares;
      values = k.values;
      decisions = k.decisions;
      rules = placed-rules c v d at r c' v' d' p ∙ ap (set (rules_of c v d) at) (told h);
    }

-- ---- the entries that are left, by words

-- the first of the numbers from place j on
part-next : (l : List ℕ) (j : ℕ) → j < length l → drop j l ≡ get_or l j 0 ∷ drop (j + 1) l
part-next l j h = drop-cons l j 0 h ∙ ap (λ (i : ℕ). get_or l j 0 ∷ drop i l) (sym (add-one j))

module _ (r : FiveFieldRule) where
  -- with one source prefix, from destination prefix j on
  pub inside-next : (sc sv : ℕ) (cs vs : List ℕ) (j : ℕ) → j < length cs → length cs ≡ length vs
      → entries_inside r sc sv (drop j cs) (drop j vs)
      ≡ (entry_by r sc sv (get_or cs j 0) (get_or vs j 0) ∷ []) ++ entries_inside r sc sv (drop (j + 1) cs) (drop (j + 1) vs)
  unfolding entries_inside
  inside-next sc sv cs vs j h e = ap₂ (entries_inside r sc sv) (part-next cs j h) (part-next vs j (omega arith))

  pub inside-none : (sc sv : ℕ) (cs vs : List ℕ) (j : ℕ) → length cs ≤ j → entries_inside r sc sv (drop j cs) (drop j vs) ≡ []
  unfolding entries_inside
  inside-none sc sv cs vs j h = ap (λ (l : List ℕ). entries_inside r sc sv l (drop j vs)) (drop_of_length-le cs {i = j} h)

  pub inside-length : (sc sv : ℕ) (cs vs : List ℕ) → length cs ≡ length vs → length (entries_inside r sc sv cs vs) ≡ length cs
  unfolding entries_inside
  inside-length sc sv [] vs e = refl
  inside-length sc sv (c ∷ cs) [] e = absurd (omega arith)
  inside-length sc sv (c ∷ cs) (v ∷ vs) e = ap suc (inside-length sc sv cs vs (omega arith))

  -- from source prefix i on
  pub pairs_next : (scs svs cs vs : List ℕ) (i : ℕ) → i < length scs → length scs ≡ length svs
      → entries_by r (drop i scs) (drop i svs) cs vs
      ≡ entries_inside r (get_or scs i 0) (get_or svs i 0) cs vs ++ entries_by r (drop (i + 1) scs) (drop (i + 1) svs) cs vs
  unfolding entries_by
  pairs_next scs svs cs vs i h e = ap₂ (λ (x y : List ℕ). entries_by r x y cs vs) (part-next scs i h) (part-next svs i (omega arith))

  pub pairs-none : (scs svs cs vs : List ℕ) (i : ℕ) → length scs ≤ i → entries_by r (drop i scs) (drop i svs) cs vs ≡ []
  unfolding entries_by
  pairs-none scs svs cs vs i h = ap (λ (l : List ℕ). entries_by r l (drop i svs) cs vs) (drop_of_length-le scs {i = i} h)

  -- ---- by words and by prefixes

  inside-prefixes : (s : Prefix) (ds : List Prefix) → entries_inside r (care_word port_bits s) (value_word s) (map (care_word port_bits) ds) (map value_word ds) ≡ map (entry r s) ds
  unfolding entries_inside entry_by entry
  inside-prefixes s [] = refl
  inside-prefixes s (d ∷ ds) = ap (λ (es : List Rule). entry r s d ∷ es) (inside-prefixes s ds)

  pairs-prefixes : (ss ds : List Prefix)
      → entries_by r (map (care_word port_bits) ss) (map value_word ss) (map (care_word port_bits) ds) (map value_word ds) ≡ flat_map (λ (s : Prefix). map (entry r s) ds) ss
  unfolding entries_by flat_map
  pairs-prefixes [] ds = refl
  pairs-prefixes (s ∷ ss) ds = ap₂ (λ (x y : List Rule). x ++ y) (inside-prefixes s ds) (pairs-prefixes ss ds)

  -- the entries of a rule by the words of its ports are its expansion
  pub pairs-expansion : (m n : ℕ) (scs svs cs vs : List ℕ) → PortWords r.source_low r.source_high m scs svs → PortWords r.destination_low r.destination_high n cs vs
      → entries_by r (take m scs) (take m svs) (take n cs) (take n vs) ≡ expansion r
  unfolding expansion
  pairs-expansion m n scs svs cs vs p q =
      four p.cares p.values q.cares q.values ∙ pairs-prefixes (source_prefixes r) (destination_prefixes r)
    where
      four : {a a' b b' c c' d d' : List ℕ} → a ≡ a' → b ≡ b' → c ≡ c' → d ≡ d' → entries_by r a b c d ≡ entries_by r a' b' c' d'
      four e f g h = cc

-- the first places that hold the words of ports are as many as they are
pub words-length : (low high n : ℕ) (cs vs : List ℕ) → PortWords low high n cs vs → (length (take n cs) ≡ n) × (length (take n vs) ≡ n)
words-length low high n cs vs p = (long (care_word port_bits) p.cares, long value_word p.values)
  where
    long : {l : List ℕ} (f : Prefix → ℕ) → l ≡ map f (range_prefixes port_bits low high) → length l ≡ n
    long f e = ap length e ∙ length-map (range_prefixes port_bits low high) f ∙ sym p.count

-- so many are they
pub words_count : (r : FiveFieldRule) (m n : ℕ) (scs svs cs vs : List ℕ) → PortWords r.source_low r.source_high m scs svs → PortWords r.destination_low r.destination_high n cs vs
    → m * n ≡ length (expansion r)
words_count r m n scs svs cs vs p q = ap₂ (λ (x y : ℕ). x * y) p.count q.count ∙ sym (expansion-count r)

-- ---- the rules, one after the other

rules-left : (s : Slices) (i : ℕ) → i < rows s → expanded (rules_from s i (rows s - i)) ≡ expansion (rule_at s i) ++ expanded (rules_from s (i + 1) (rows s - (i + 1)))
unfolding expanded flat_map
rules-left s i h = ap expanded (rules-next s i (rows s) h)

rules-done : (s : Slices) (i : ℕ) → rows s ≤ i → expanded (rules_from s i (rows s - i)) ≡ []
unfolding expanded flat_map
rules-done s i h = ap expanded (rules-none s i (rows s) h)

-- The entries of the rules before position i are put, up to place `at`.
pub record Expanding (s : Slices) (c₀ v₀ d₀ : List ℕ) (i at : ℕ) (c v d : List ℕ) : Type 0 where
  pub count : at + length (expanded (rules_from s i (rows s - i))) ≡ length (expanded (rules_in s))
  pub put : Putting 0 (expanded (rules_in s)) c₀ v₀ d₀ at (expanded (rules_from s i (rows s - i))) c v d

module _ (s : Slices) (c₀ v₀ d₀ : List ℕ) (i at : ℕ) (c v d : List ℕ) (x : Expanding s c₀ v₀ d₀ i at c v d) where
  -- the next rule has its room among all entries
  pub expanding-room : i < rows s → (r : FiveFieldRule) → r ≡ rule_at s i → at + length (expansion r) ≤ length (expanded (rules_in s))
  expanding-room h r e =
      omega (arith, x.count, left-count s i (rows s) h, ap (λ (y : FiveFieldRule). length (expansion y)) e)

  pub expanding-next : i < rows s → (r : FiveFieldRule) → r ≡ rule_at s i → (n : ℕ) → n ≡ length (expansion r) → (c' v' d' : List ℕ) → Put at (expansion r) c v d c' v' d'
      → Expanding s c₀ v₀ d₀ (i + 1) (at + n) c' v' d'
  expanding-next h r e n f c' v' d' p =
      let g : length (expansion r) ≡ length (expansion (rule_at s i)) = ap (λ (y : FiveFieldRule). length (expansion y)) e in
      record {
        count = omega (arith, x.count, left-count s i (rows s) h, f, g);
        put = putting-some 0 _ c₀ v₀ d₀ at _ (expansion r) _ c v d c' v' d' (rules-left s i h ∙ ap (λ (y : FiveFieldRule). expansion y ++ expanded (rules_from s (i + 1) (rows s - (i + 1)))) (sym e)) x.put p _ (omega (arith, f));
      }

  pub expanding-done : rows s ≤ i → Put 0 (expanded (rules_in s)) c₀ v₀ d₀ c v d
  expanding-done h = putting-none 0 _ c₀ v₀ d₀ at _ c v d (rules-done s i h) x.put

-- ---- from rules to slices

-- a slice of one number to a rule
one-filled : (f : Rule → ℕ) (es old l : List Rule) (was : List ℕ) → l ≡ es ++ drop (length es) old → map f old ≡ was → map f l ≡ filled (map f es) was
one-filled f es old l was e o =
    ap (map f) e ∙ map-append f es (drop (length es) old)
    ∙ ap (λ (t : List ℕ). map f es ++ t) (map-drop f (length es) old ∙ ap₂ (λ (k : ℕ) (t : List ℕ). drop k t) (sym (length-map es f)) o)

-- and of two
two-filled : (f : Rule → ℕ) (es old l : List Rule) (was : List ℕ) → l ≡ es ++ drop (length es) old → halves_of (map f old) ≡ was
    → halves_of (map f l) ≡ filled (halves_of (map f es)) was
two-filled f es old l was e o =
    ap halves_of (one-filled f es old l (map f old) e refl)
    ∙ halves-append (map f es) (drop (length (map f es)) (map f old))
    ∙ ap (λ (t : List ℕ). halves_of (map f es) ++ t)
    (sym (halves-drop (map f old) (length (map f es)) (length (halves_of (map f es))) (halves-length (map f es))) ∙ ap (drop (length (halves_of (map f es)))) o)

-- What the three slices hold after entries were put from the first place on.
pub record Laid (es : List Rule) (c v d c' v' d' : List ℕ) : Type 0 where
  pub cares : c' ≡ filled (cares_of es) c
  pub values : v' ≡ filled (values_of es) v
  pub decisions : d' ≡ filled (decisions_of es) d

pub put-laid : (es : List Rule) (c v d c' v' d' : List ℕ) → Lent c v d → Machine c → Machine v → Machine c' → Machine v' → length es ≤ length d
    → Put 0 es c v d c' v' d' → Laid es c v d c' v' d'
put-laid es c v d c' v' d' l mc mv mc' mv' room p =
    record {
      cares = sym (rules-care c' v' d' l' mc') ∙ two-filled care_of es (rules_of c v d) _ c whole (rules-care c v d l mc);
      values = sym (rules-value c' v' d' l' mv') ∙ two-filled value_of es (rules_of c v d) _ v whole (rules-value c v d l mv);
      decisions = sym (rules-decision c' v' d' l') ∙ one-filled decision_of es (rules_of c v d) _ d whole (rules-decision c v d l);
    }
  where
    l' : Lent c' v' d'
    l' = kept-lent c v d c' v' d' (record { cares = p.cares; values = p.values; decisions = p.decisions }) l

    whole : rules_of c' v' d' ≡ es ++ drop (length es) (rules_of c v d)
    whole = p.rules ∙ sets-eq es (rules_of c v d) 0 (omega (arith, rules-length c v d l, room)) ∙ ap (λ (k : ℕ). es ++ drop k (rules_of c v d)) (let e : 0 + length es ≡ length es = omega arith in e)
