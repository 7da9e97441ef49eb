-- Laws of a lookup's reply: it says which rule the header hits and what the list answers, and two lookups decide alike exactly where the
-- lists answer alike.
use mathlib.Core.Path.{◌≡◌, refl, sym, ap, ◌∙◌}
use mathlib.Core.Logic.{◌≢◌, ◌↔◌}
use mathlib.Core.List.{List, [], ◌∷◌}
use mathlib.Core.Bool.{Bool, true, false}
use Prim.Native.Nat.{ℕ, ◌+◌, ◌^◌, ◌≤◌, ◌<◌}
use native.Mathlib.Omega.{arith}
use native.Mathlib.Decide.{dec_lt}
use lib.Dec.{eqb}
use borrow.Author.Tests.{eqb-true, lt-ltb, le-ltb}
use Rattle.rules.specs.Rules.{no_match, answer}
use Rattle.rules.specs.Slices.{rules_of, rule_at}
use Rattle.rules.specs.Found.{Hits, Misses}
use Rattle.rules.specs.Replies.{Reply, Gives, Refuses, passed}
use Rattle.rules.specs.Checks.{header_check}
use Rattle.rules.specs.Calls.{check_list, gives_if, first_hit, looked_up, decided, answered}
use Rattle.rules.proofs.ReplyLaws.{then_next, then-second, one_value}
use Rattle.rules.proofs.CheckLaws.{list-sound, list-first, header-yes, header-no}
use Rattle.rules.proofs.HitLaws.{reply-told, reply-hit, hit-reply, reply-miss, miss-reply, decided-answered}

-- ---- an answer as a reply

-- A reply of one value is not the reply of none.
one_none : {a : ℕ} → Gives (a ∷ []) ≡ Gives [] → ⊥
one_none e = let z : ◌≡◌ {A = ℕ} 1 0 = cc in omega arith

-- No two answers have one reply.
pub answered-once : (a b : ℕ) → answered a ≡ answered b → a ≡ b
answered-once a b = go (eqb a no_match) (eqb b no_match) refl refl
  where
    go : (s t : Bool) → eqb a no_match ≡ s → eqb b no_match ≡ t
        → gives_if s (Gives []) (Gives (a ∷ [])) ≡ gives_if t (Gives []) (Gives (b ∷ [])) → a ≡ b
    go true true p q e = eqb-true a no_match p ∙ sym (eqb-true b no_match q)
    go true false p q e = absurd (one_none (sym e))
    go false true p q e = absurd (one_none e)
    go false false p q e = one_value e

-- Two replies that are answers for a header of the width, and are the same for every other: they differ exactly where the header is of the
-- width and the two answers differ.
pub differ-exactly : (w h : ℕ) (x y : Reply) (a b : ℕ) → (h < 2 ^ w → x ≡ answered a) → (h < 2 ^ w → y ≡ answered b) → (2 ^ w ≤ h → x ≡ y)
    → (x ≢ y) ↔ ((h < 2 ^ w) × (a ≢ b))
differ-exactly w h x y a b p q s = (there (dec_lt h (2 ^ w)), back)
  where
    there : Dec (h < 2 ^ w) → x ≢ y → (h < 2 ^ w) × (a ≢ b)
    there (yes l) n = (l, λ e. n (p l ∙ ap answered e ∙ sym (q l)))
    there (no m) n = absurd (n (s (omega arith)))

    back : (h < 2 ^ w) × (a ≢ b) → x ≢ y
    back d e = d.1 (answered-once a b (sym (p d.0) ∙ e ∙ q d.0))

-- ---- one list

module _ (w : ℕ) (cs vs ds : List ℕ) (h : ℕ) where
  module _ (fine : check_list w 1 cs vs ds ≡ passed) where
    module _ (l : h < 2 ^ w) where
      -- A header of the width, looked up in a list that passes: the reply is what is found.
      pub looked-found : looked_up w cs vs ds h ≡ first_hit (rules_of cs vs ds) h
      unfolding looked_up
      looked-found = then_next _ _ fine ∙ then_next _ _ (header-yes w h (lt-ltb _ _ l))

      -- It gives a number and a decision exactly where the rule with that number, counted from 1, is hit and has that decision.
      pub hit-exactly : (i d : ℕ) → (looked_up w cs vs ds h ≡ Gives ((i + 1) ∷ d ∷ [])) ↔ (Hits (rules_of cs vs ds) h i × ((rule_at (rules_of cs vs ds) i).decision ≡ d))
      hit-exactly i d =
          ((λ e. reply-hit (rules_of cs vs ds) h i d (sym looked-found ∙ e)), (λ x. looked-found ∙ hit-reply (rules_of cs vs ds) h i d x))

      -- It gives no match exactly where no rule is hit.
      pub miss-exactly : (looked_up w cs vs ds h ≡ Gives []) ↔ Misses (rules_of cs vs ds) h
      miss-exactly = ((λ e. reply-miss (rules_of cs vs ds) h (sym looked-found ∙ e)), (λ m. looked-found ∙ miss-reply (rules_of cs vs ds) h m))

      -- What it decides is what the list answers.
      pub looked-answered : decided (looked_up w cs vs ds h) ≡ answered (answer (rules_of cs vs ds) h)
      looked-answered = ap decided looked-found ∙ decided-answered w (rules_of cs vs ds) h (list-sound w 1 cs vs ds fine).valid

    -- Every other header is refused there.
    pub looked-past : 2 ^ w ≤ h → looked_up w cs vs ds h ≡ Refuses 6 0 0
    unfolding looked_up
    looked-past l = then_next _ _ fine ∙ header-no w h _ (le-ltb _ _ l)

  module _ {ns : List ℕ} (e : looked_up w cs vs ds h ≡ Gives ns) where
    -- A lookup that is not refused replies what is found.
    given-found : first_hit (rules_of cs vs ds) h ≡ Gives ns
    unfolding looked_up
    given-found = then-second (header_check w h) _ ns (then-second (check_list w 1 cs vs ds) _ ns e)

    -- It decides what the list answers.
    pub looked-given : decided (looked_up w cs vs ds h) ≡ answered (answer (rules_of cs vs ds) h)
    unfolding looked_up
    looked-given =
        ap decided (e ∙ sym given-found) ∙ decided-answered w (rules_of cs vs ds) h (list-sound w 1 cs vs ds (list-first w 1 cs vs ds _ e)).valid

  -- The number that a lookup gives is that of the rule that is hit, counted from 1; the decision beside it is that rule's, and what the
  -- list answers.
  pub hit-told : (n d : ℕ) → looked_up w cs vs ds h ≡ Gives (n ∷ d ∷ [])
      → (i : ℕ) × (n ≡ i + 1) × Hits (rules_of cs vs ds) h i × ((rule_at (rules_of cs vs ds) i).decision ≡ d) × (answer (rules_of cs vs ds) h ≡ d)
  hit-told n d e = reply-told (rules_of cs vs ds) h n d (given-found e)

-- ---- two lists

module _ (w : ℕ) (cs vs ds cs' vs' ds' : List ℕ) (h : ℕ) where
  -- Two lookups of one header that are not refused decide alike exactly where the two lists answer alike.
  pub given-alike : {ns ms : List ℕ} → looked_up w cs vs ds h ≡ Gives ns → looked_up w cs' vs' ds' h ≡ Gives ms
      → (decided (looked_up w cs vs ds h) ≡ decided (looked_up w cs' vs' ds' h)) ↔ (answer (rules_of cs vs ds) h ≡ answer (rules_of cs' vs' ds') h)
  given-alike p q =
      let s = looked-given w cs vs ds h p in
      let t = looked-given w cs' vs' ds' h q in
      ((λ e. answered-once _ _ (sym s ∙ e ∙ t)), (λ e. s ∙ ap answered e ∙ sym t))

  module _ (p : check_list w 1 cs vs ds ≡ passed) (q : check_list w 1 cs' vs' ds' ≡ passed) where
    -- Past the width both lookups are refused alike.
    past-alike : 2 ^ w ≤ h → decided (looked_up w cs vs ds h) ≡ decided (looked_up w cs' vs' ds' h)
    past-alike l = ap decided (looked-past w cs vs ds h p l ∙ sym (looked-past w cs' vs' ds' h q l))

    -- Where two lists that pass answer a header alike, if it is of the width, its lookups decide alike, whichever rules it hits.
    pub decide-alike-within : (h < 2 ^ w → answer (rules_of cs vs ds) h ≡ answer (rules_of cs' vs' ds') h)
        → decided (looked_up w cs vs ds h) ≡ decided (looked_up w cs' vs' ds' h)
    decide-alike-within e = go (dec_lt h (2 ^ w))
      where
        go : Dec (h < 2 ^ w) → decided (looked_up w cs vs ds h) ≡ decided (looked_up w cs' vs' ds' h)
        go (yes l) = looked-answered w cs vs ds h p l ∙ ap answered (e l) ∙ sym (looked-answered w cs' vs' ds' h q l)
        go (no m) = past-alike (omega arith)

    pub decide-alike : answer (rules_of cs vs ds) h ≡ answer (rules_of cs' vs' ds') h → decided (looked_up w cs vs ds h) ≡ decided (looked_up w cs' vs' ds' h)
    decide-alike e = decide-alike-within (λ l. e)

    -- In two lists that pass, the lookups of a header decide differently exactly where it is of the width and the two lists answer
    -- differently.
    pub decide-differently : (decided (looked_up w cs vs ds h) ≢ decided (looked_up w cs' vs' ds' h))
        ↔ ((h < 2 ^ w) × (answer (rules_of cs vs ds) h ≢ answer (rules_of cs' vs' ds') h))
    decide-differently = differ-exactly w h _ _ _ _ (looked-answered w cs vs ds h p) (looked-answered w cs' vs' ds' h q) past-alike
