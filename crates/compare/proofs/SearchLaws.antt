-- Laws of the search for the lowest header at which a list needs a rule: the cube that it starts from, and what it comes to.
use Prim.Native.Nat.{ℕ, ◌-◌, ◌*◌, ◌^◌, ◌≤◌, ◌<◌}
use mathlib.Core.Path.{◌≡◌, refl, sym, ap, ◌∙◌, subst}
use mathlib.Core.List.{List, [], ◌∷◌}
use mathlib.Core.Bool.{true}
use native.Mathlib.Omega.{arith}
use native.Mathlib.Nat.{div-eq_of_lt}
use lib.ListN.{length, get_or}
use lib.Bits.{bit_and, bit_or, and_le_r, or_zero_r, and_self, or_comm}
use lib.Dec.{eqb}
use lib.Pow.{pow_mono}
use borrow.Author.Tests.{eqb-true}
use Rattle.words.specs.declared.Word.{Word}
use Rattle.words.specs.Halves.{num, limit}
use Rattle.words.specs.Slices.{words_of, halves_of}
use Rattle.words.proofs.Tests.{split}
use Rattle.words.proofs.BitLaws.{and-sub}
use Rattle.words.proofs.WordLaws.{limit-pow, halves-num}
use Rattle.words.proofs.SliceLaws.{words-length}
use Rattle.rules.specs.Rule.{Rule}
use Rattle.rules.specs.Rules.{Valid, matches, answer, no_match}
use Rattle.rules.specs.Lists.{except}
use Rattle.rules.specs.Slices.{rules_of, rule_at, blank}
use Rattle.rules.specs.Checks.{Sound}
use Rattle.rules.specs.Calls.{check_list}
use Rattle.rules.specs.Replies.{Gives}
use Rattle.rules.proofs.EntryLaws.{all-place}
use Rattle.rules.proofs.SliceLaws.{rule-inside, rules-length}
use Rattle.rules.proofs.ReplyLaws.{then_next}
use Rattle.rules.proofs.CheckLaws.{sound-narrow, list-sound}
use Rattle.std.specs.Prelude.{Some, None}
use Rattle.compare.specs.EngineSets.{answer_of, Narrowed}
use Rattle.compare.specs.EngineCubes.{Alike, Decided}
use Rattle.compare.specs.Search.{Lowered, AllBut}
use Rattle.compare.specs.Needed.{lowest_change, needed_at}
use Rattle.compare.proofs.EngineBits.{and-or}
use Rattle.compare.proofs.EngineBlocks.{base, below_next, upper}
use Rattle.compare.proofs.EngineWhole.{all, sound-ready, whole}
use Rattle.compare.proofs.SweepPlaces.{within-left}
use Rattle.compare.proofs.LowestLaws.{lowered-start, lowered-end}
use Rattle.compare.proofs.ButLaws.{whole_but}
use Rattle.compare.proofs.NeededDemands.{given-one, given-none}
use Rattle.compare.proofs.NeededLaws.{nothing-exactly, lowest-exactly, past-nothing, unmatched-same}

module _ (w : ℕ) (cs vs ds : List ℕ) (i : ℕ) (S : Sound w cs vs ds) (inside : i < length ds) where
  abbrev rs : List Rule
  rs = rules_of cs vs ds

  abbrev c : ℕ
  c = get_or (words_of cs) i 0

  abbrev v : ℕ
  v = get_or (words_of vs) i 0

  -- a position of the rules is one of the words
  pub in-cares : i < length (words_of cs)
  in-cares = omega (arith, words-length cs, S.lent.decisions)

  pub in-values : i < length (words_of vs)
  in-values = omega (arith, words-length vs, S.lent.values, S.lent.decisions)

  the-rule : rule_at rs i ≡ record { care = c; value = v; decision = get_or ds i 0 }
  the-rule =
      sym (rule-inside cs vs ds i (omega (arith, S.lent.decisions)) (omega (arith, S.lent.values, S.lent.decisions)) inside)

  valid : Valid w (record { care = c; value = v; decision = get_or ds i 0 })
  valid = subst (Valid w) the-rule (all-place (Valid w) rs i blank S.valid (omega (arith, rules-length cs vs ds S.lent)))

  narrow-width : w ≤ 128
  narrow-width = sound-narrow S

  v_below : v < 2 ^ w
  v_below = let l = and_le_r v c in omega (arith, valid.within, valid.fits)

  wide : 2 ^ w ≤ limit
  wide = subst (λ (x : ℕ). 2 ^ w ≤ x) (sym limit-pow) (pow_mono narrow-width)

  -- ---- the cube: c and the places above the width, m, are cared for

  module _ (m care value : ℕ) (is : m ≡ limit - 2 ^ w) (ec : care ≡ bit_or c m) (ev : value ≡ v) where
    -- nothing is left above the width
    flat : (h : ℕ) → h < 2 ^ w → bit_and h m ≡ 0
    flat h l = upper w m narrow-width is h (omega (arith, wide)) ∙ ap (λ (x : ℕ). x * 2 ^ w) (div-eq_of_lt l) ∙ omega arith

    pub start-valid : bit_and value care ≡ value
    start-valid = ap (λ (x : ℕ). bit_and x care) ev ∙ ap (bit_and v) ec ∙ within-left v c m valid.within ∙ sym ev

    -- a header of the width that matches the rule is in the cube
    in_start : (h : ℕ) → h < 2 ^ w → bit_and h c ≡ v → bit_and h care ≡ value
    in_start h l e = ap (bit_and h) ec ∙ and-or h c m ∙ ap (bit_or (bit_and h c)) (flat h l) ∙ or_zero_r (bit_and h c) ∙ e ∙ sym ev

    -- and each header in the cube is of the width
    start-below : (h : ℕ) → h < limit → bit_and h care ≡ value → h < 2 ^ w
    start-below h l e =
        let s : bit_and m (bit_or c m) ≡ m = ap (bit_and m) (or_comm c m) ∙ within-left m m c (and_self m) in
        let b : base h w ≡ 0 =
        sym (upper w m narrow-width is h l) ∙ sym (and-sub m (bit_or c m) h s) ∙ ap (λ (x : ℕ). bit_and x m) (ap (bit_and h) (sym ec) ∙ e ∙ ev) ∙ flat v v_below in
        omega (arith, below_next h w)

    -- ---- what the two sets answer there

    module _ (others with but : List ℕ) (B : AllBut others i) (N : Narrowed (words_of cs) (words_of vs) all with care value)
        (M : Narrowed (words_of cs) (words_of vs) others but care value) where
      abbrev f : ℕ → ℕ
      f = answer_of (words_of cs) (words_of vs) ds with no_match

      abbrev g : ℕ → ℕ
      g = answer_of (words_of cs) (words_of vs) ds but no_match

      f-is : (h : ℕ) → bit_and h care ≡ value → f h ≡ answer rs h
      f-is h e = N.same ds no_match h e ∙ whole cs vs ds no_match h (sound-ready w cs vs ds S)

      g-is : (h : ℕ) → bit_and h care ≡ value → g h ≡ answer (except i rs) h
      g-is h e = M.same ds no_match h e ∙ whole_but cs vs ds others no_match h i (sound-ready w cs vs ds S) B

      hit : (h : ℕ) → matches (rule_at rs i) h ≡ true → bit_and h c ≡ v
      unfolding matches
      hit h t = eqb-true (bit_and h c) v (ap (λ (r : Rule). eqb (bit_and h r.care) r.value) (sym the-rule) ∙ t)

      -- where they answer alike at a header, so do the list and the list without the rule
      same-below : (h : ℕ) → h < 2 ^ w → (bit_and h care ≡ value → f h ≡ g h) → answer (except i rs) h ≡ answer rs h
      same-below h l e =
          split (matches (rule_at rs i) h)
          (λ t. let q = in_start h l (hit h t) in sym (g-is h q) ∙ sym (e q) ∙ f-is h q)
          (λ t. unmatched-same rs i h t)

      -- no difference on the cube
      pub search-none : Decided f g care value None → [] ≡ lowest_change w rs i
      unfolding Decided Alike
      search-none D = sym ((nothing-exactly w rs i).1 (λ h l. same-below h l (λ q. D h (omega (arith, wide)) q)))

      -- a difference on the cube to start from
      pub search-start : (h : Word) → num h < limit → Decided f g care value (Some h) → Lowered f g care value w (num h)
      unfolding Decided
      search-start h l D = lowered-start f g care value w (num h) D.0 l (start-below (num h) l D.0) D.1

      -- and the lowest one
      pub search-end : (h : Word) → Lowered f g care value 0 (num h) → num h ∷ [] ≡ lowest_change w rs i
      search-end h L =
          sym ((lowest-exactly w rs i (num h)).1
          (record {
            below = low;
            differ = λ e. L.differ (f-is (num h) L.inside ∙ sym e ∙ sym (g-is (num h) L.inside));
            lowest = λ x l. same-below x (omega (arith, low)) (λ q. lowered-end f g care value w (num h) L x l q);
          }))
        where
          low : num h < 2 ^ w
          low = start-below (num h) L.fits L.inside

-- ---- the call

module _ (w : ℕ) (cs vs ds : List ℕ) (k : ℕ) (fine : Gives [] ≡ check_list w 1 cs vs ds) where
  given : needed_at w cs vs ds k ≡ Gives (halves_of (lowest_change w (rules_of cs vs ds) k))
  unfolding needed_at
  given = then_next _ _ (sym fine)

  pub needed-sound : Sound w cs vs ds
  needed-sound = list-sound w 1 cs vs ds (sym fine)

  -- no header
  pub needed-none : [] ≡ lowest_change w (rules_of cs vs ds) k → Gives [] ≡ needed_at w cs vs ds k
  needed-none e = sym (given-none _ (sym e)) ∙ sym given

  -- no such position
  pub needed-past : length ds ≤ k → Gives [] ≡ needed_at w cs vs ds k
  needed-past l =
      needed-none (sym (past-nothing w (rules_of cs vs ds) k (omega (arith, rules-length cs vs ds needed-sound.lent))))

  -- a header
  pub needed-found : (h : Word) → h.low < 2 ^ 64 → num h ∷ [] ≡ lowest_change w (rules_of cs vs ds) k → Gives (h.low ∷ h.high ∷ []) ≡ needed_at w cs vs ds k
  needed-found h l e =
      ap (λ (x : Word). Gives (x.low ∷ x.high ∷ [])) (sym (halves-num h l))
      ∙ sym (given-one (num h ∷ []) (num h) refl)
      ∙ ap (λ (x : List ℕ). Gives (halves_of x)) e
      ∙ sym given
