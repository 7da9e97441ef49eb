-- Laws of what is listed: one for each way that a header goes.
use Prim.Native.Nat.{ℕ, ◌+◌, ◌-◌, ◌≤◌, ◌<◌}
use mathlib.Core.Path.{◌≡◌, sym, ap, ◌∙◌}
use mathlib.Core.Logic.{◌≢◌}
use mathlib.Core.List.{List}
use mathlib.Core.Bool.{Bool, true}
use native.Mathlib.Omega.{arith}
use lib.ListN.{length, get_or, set}
use lib.Dec.{eqb}
use Rattle.words.specs.declared.Word.{Word}
use Rattle.words.specs.Halves.{num, halves}
use Rattle.words.specs.Slices.{words_of, with_word}
use Rattle.words.proofs.WordLaws.{holds}
use Rattle.words.proofs.Tests.{eqb_yes, no_eqb}
use Rattle.compare.specs.Sweep.{Room, Joins}
use Rattle.compare.proofs.SweepRuns.{runs-gap}
use Rattle.compare.proofs.SweepLaws.{put-words, listing-same, join_last, stopped, more}
use Rattle.std.specs.Prelude.{Some, None}
use Rattle.plain_compare.specs.Walk.{Tells, Passed, Passes}

-- ---- whether the last run ends right before h with the answers of h

module _ (last old new : List ℕ) (count h a b : ℕ) (after : h ≡ 0 → ⊥) {t : Bool} {x y : Word}
    (e : t ≡ eqb (num x) (num y)) (p : x ≡ halves (get_or (words_of last) (count - 1) 0)) (q : y ≡ halves (h - 1)) where
  -- and by the new answer there, where that test and the old answer say yes
  pub told-by-new : t ≡ true → (count ≡ 0 → ⊥) → get_or old (count - 1) 0 ≡ a
      → Tells (eqb (get_or new (count - 1) 0) b) (Joins last old new count h a b)
  told-by-new f c o =
      ((λ s. record { some = omega arith; next = omega (arith, eqb_yes (num x) (num y) (sym e ∙ f), holds p, holds q); olds = o; news = eqb_yes (get_or new (count - 1) 0) b s }), λ s j. no_eqb (get_or new (count - 1) 0) b s j.news)

-- ---- the ways of a header

-- a header alone as a stretch of headers
alone : (f : ℕ → ℕ) (h a : ℕ) → f h ≡ a → (k : ℕ) → h ≤ k → k < h + 1 → a ≡ f k
alone f h a e k p q = sym e ∙ ap f (omega arith)

-- the two lists answer alike at h
pub passed_over : (f g : ℕ → ℕ) (h : ℕ) (first last old new : List ℕ) (count : ℕ) → f h ≡ g h
    → Passes f g h first last old new first last old new count (Some count)
unfolding Passed
passed_over f g h first last old new count e start wf wl wo wn from L =
    listing-same f g start h wf wl wo wn first last old new count L (h + 1)
    (runs-gap f g h (h + 1) (omega arith) start (λ k p q s. sym (alone f h (g h) e k p q) ∙ ap g (omega arith)))

-- they do not
module _ (h a b : ℕ) (first last old new : List ℕ) (count : ℕ) (differ : a ≢ b) (R : Room first last old new) (few : count ≤ length old)
    {x : Word} (e : x ≡ halves h) where
  placed : (l l' : List ℕ) (i : ℕ) → l' ≡ with_word l i x → words_of l' ≡ set (words_of l) i h
  placed l l' i p = put-words l l' i x p ∙ ap (set (words_of l) i) (holds e)

  -- the last run is lengthened
  pub lengthened : (last' : List ℕ) → last' ≡ with_word last (count - 1) x → Joins last old new count h a b
      → (f g : ℕ → ℕ) → f h ≡ a → g h ≡ b → Passes f g h first last old new first last' old new count (Some count)
  unfolding Passed
  lengthened last' p J f g F G start wf wl wo wn from L =
      join_last start h h a b first last old new count from (omega arith) differ R few f g (alone f h a F) (alone g h b G) wf wl wo wn L
      last' (placed last last' (count - 1) p) J

  module _ (n : Joins last old new count h a b → ⊥) where
    -- no place is left
    pub no_place : count ≡ length old
        → (f g : ℕ → ℕ) → f h ≡ a → g h ≡ b → Passes f g h first last old new first last old new count None
    unfolding Passed
    no_place c f g F G start wf wl wo wn from L =
        stopped start h h a b first last old new count from (omega arith) differ R few f g (alone f h a F) (alone g h b G) wf wl wo wn L n c

    -- one more run
    pub one_more : (first' last' : List ℕ) → first' ≡ with_word first count x → last' ≡ with_word last count x → (count ≡ length old → ⊥)
        → (f g : ℕ → ℕ) → f h ≡ a → g h ≡ b
        → Passes f g h first last old new first' last' (set old count a) (set new count b) count (Some (count + 1))
    unfolding Passed
    one_more first' last' p q c f g F G start wf wl wo wn from L =
        more start h h a b first last old new count from (omega arith) differ R few f g (alone f h a F) (alone g h b G) wf wl wo wn L
        first' last' (placed first first' count p) (placed last last' count q) n c
