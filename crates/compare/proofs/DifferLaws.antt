-- Laws of the lowest header on which two answers differ: what the search for it finds, and that it finds nothing else.
use mathlib.Core.Path.{◌≡◌, sym, ap, ◌∙◌}
use mathlib.Core.Logic.{◌≢◌, ◌↔◌, ◌⊎◌, inl, inr, ⊎_elim}
use mathlib.Core.List.{[], ◌∷◌}
use mathlib.Core.Bool.{true, false, not}
use Prim.Native.Nat.{ℕ, ◌^◌, ◌<◌}
use native.Mathlib.Omega.{arith}
use borrow.Author.Tests.{eqb-true, eqb-false, eq-eqb, ne_eqb, not-false}
use Rattle.words.proofs.Tests.{not-true}
use Rattle.compare.specs.Differing.{differ_on, lowest_difference, AlikeEverywhere, LowestDifference}
use Rattle.compare.proofs.NeededLaws.{one-one, lowest-found, lowest-none, first_or_none, found, none_told, found-told}

-- ---- whether two answers differ

module _ (f g : ℕ → ℕ) (h : ℕ) where
  differs-not : differ_on f g h ≡ false → f h ≡ g h
  unfolding differ_on
  differs-not e = eqb-true _ _ (not-false _ e)

  not-differs : f h ≡ g h → differ_on f g h ≡ false
  unfolding differ_on
  not-differs e = ap not (eq-eqb _ _ e)

  differs-yes : differ_on f g h ≡ true → f h ≢ g h
  unfolding differ_on
  differs-yes e = eqb-false _ _ (not-true _ e)

  yes-differs : f h ≢ g h → differ_on f g h ≡ true
  unfolding differ_on
  yes-differs n = ap not (ne_eqb _ _ n)

-- ---- the lowest header

module _ (w : ℕ) (f g : ℕ → ℕ) where
  -- There is none exactly where the two answers are the same on every header of the width.
  pub alike-exactly : (lowest_difference w f g ≡ []) ↔ AlikeEverywhere w f g
  unfolding lowest_difference
  alike-exactly = (
    λ e h l. differs-not f g h (none_told (differ_on f g) (2 ^ w) 0 e h (omega arith) (omega arith)),
    λ a. lowest-none (differ_on f g) (2 ^ w) 0 (λ x u v. not-differs f g x (a x (omega arith))),
  )

  -- It is h exactly where the answers differ on h and on no lower header.
  pub difference-exactly : (h : ℕ) → (lowest_difference w f g ≡ h ∷ []) ↔ LowestDifference w f g h
  unfolding lowest_difference
  difference-exactly h = (
    λ e.
        let p = found-told (differ_on f g) (2 ^ w) 0 h e in
        record {
          below = omega (arith, p.inside);
          differ = differs-yes f g h p.holds;
          lowest = λ x l. differs-not f g x (p.none x (omega arith) l);
        },
    λ c.
        lowest-found (differ_on f g) (2 ^ w) 0 h (omega arith) (omega (arith, c.below)) (yes-differs f g h c.differ)
        (λ x u v. not-differs f g x (c.lowest x v)),
  )

  -- There is none or one.
  pub none-or-one : (lowest_difference w f g ≡ []) ⊎ ((h : ℕ) × (lowest_difference w f g ≡ h ∷ []))
  unfolding lowest_difference
  none-or-one =
      ⊎_elim (λ a. inl (lowest-none (differ_on f g) (2 ^ w) 0 a))
      (λ t. inr (t.0, found (differ_on f g) (2 ^ w) 0 t.0 t.1)) (first_or_none (differ_on f g) (2 ^ w) 0)

  -- No two headers are the lowest.
  pub lowest-once : (x y : ℕ) → LowestDifference w f g x → LowestDifference w f g y → x ≡ y
  lowest-once x y a b = one-one (sym ((difference-exactly x).1 a) ∙ (difference-exactly y).1 b)

  -- Where the answers differ on some header of the width there is a lowest such header.
  pub difference-lowest : (h : ℕ) → h < 2 ^ w → f h ≢ g h → (x : ℕ) × LowestDifference w f g x
  difference-lowest h l n =
      ⊎_elim (λ e. absurd (n (alike-exactly.0 e h l))) (λ t. (t.0, (difference-exactly t.0).0 t.1)) none-or-one
