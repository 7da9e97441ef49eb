-- The first run of differences starts at the lowest header on which two answers differ.
use Prim.Native.Nat.{ℕ, ◌<◌}
use mathlib.Core.Path.{◌≡◌, refl, sym, ap, subst}
use mathlib.Core.List.{List, [], ◌∷◌, Memᴰ}
use native.Mathlib.Omega.{arith}
use lib.Dec.{eqb}
use borrow.Author.Tests.{eqb-true, eqb-false}
use Rattle.words.proofs.Tests.{split}
use Rattle.compare.specs.Runs.{Run, differences, ending}
use Rattle.compare.specs.Demand.{Stands}
use Rattle.compare.specs.Differing.{lowest_difference}
use Rattle.compare.proofs.DifferLaws.{alike-exactly, difference-exactly}
use Rattle.compare.proofs.Demands.{every-difference, nothing-else, runs-longest, more-skips-nothing}

nowhere : (h : ℕ) → Stands h [] → ⊥
nowhere h s = mathlib.Core.List.Memᴰ.not-nil s.1

module _ (w : ℕ) (f g : ℕ → ℕ) where
  -- No run: they differ on no header.
  pub no_run : differences w f g 0 ≡ [] → lowest_difference w f g ≡ []
  no_run e =
      (alike-exactly w f g).1 (λ h l.
      split (eqb (f h) (g h)) (λ y. eqb-true _ _ y)
      (λ n. absurd (nowhere h (subst (Stands h) e (every-difference w f g 0 h (omega arith) l (eqb-false _ _ n))))))

  -- A first run: its first header is the lowest difference, and its answers are those of that header.
  module _ (r : Run) (rs : List Run) (e : differences w f g 0 ≡ r ∷ rs) where
    named : ending 0 (differences w f g 0) ≡ r.first ∷ []
    named = ap (ending 0) e

    below-first : (x : ℕ) → x < r.first → f x ≡ g x
    below-first x l =
        split (eqb (f x) (g x)) (λ y. eqb-true _ _ y)
        (λ n. absurd (nowhere x (more-skips-nothing w f g 0 0 r.first named x (omega arith) l (eqb-false _ _ n))))

    pub first_run : (lowest_difference w f g ≡ r.first ∷ []) × (r.old ≡ f r.first) × (r.new ≡ g r.first)
    first_run =
        let m : Memᴰ r (differences w f g 0) = subst (λ (xs : List Run). Memᴰ r xs) (sym e) (mathlib.Core.List.Memᴰ.head refl) in
        let n = nothing-else w f g 0 r.first r m (omega arith) (runs-longest w f g 0 r m).upward in
        ((difference-exactly w f g r.first).1 (record { below = n.1; differ = n.4; lowest = below-first }), sym n.2, sym n.3)
