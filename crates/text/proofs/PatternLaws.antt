-- Laws of patterns as text: each place has its glyph.
use mathlib.Core.Path.{◌≡◌, refl, sym, ap, ◌∙◌}
use mathlib.Core.List.{List, [], ◌∷◌, ◌++◌}
use mathlib.Core.Bool.{Bool}
use Prim.Native.Nat.{ℕ, zero, suc, ◌+◌, ◌≤◌, ◌<◌}
use native.Mathlib.Omega.{arith}
use native.Mathlib.Numerals.{add-one}
use lib.Dec.{eqb}
use lib.ListN.{length, get_or, drop, set, length-append, get_or-append}
use lib.Seq.{get_or-append_seam}
use borrow.Author.Tests.{eq-eqb, ne_eqb}
use Rattle.words.specs.Words.{place_bit}
use Rattle.words.proofs.Tests.{split, eqb_yes, no_eqb}
use Rattle.rules.specs.Rule.{Rule}
use Rattle.rules.specs.Rules.{choose}
use Rattle.std.specs.Prelude.{Some, None}
use Rattle.rules.specs.Replies.{Reply, Refuses, passed, unless_refused}
use Rattle.rules.specs.Checks.{width_check}
use Rattle.text.specs.Patterns.{glyph_at, places_text, pattern_text}
use Rattle.text.specs.Put.{Put}
use Rattle.text.proofs.PutLaws.{put_next, put_all, put-none, put-short}

pub text-length : (w : ℕ) (r : Rule) (k : ℕ) → length (places_text w r k) ≡ k
unfolding places_text
text-length w r zero = refl
text-length w r (suc k) = omega (arith, length-append (places_text w r k) (glyph_at w r (suc k) ∷ []), text-length w r k)

-- the text of one place more
pub text-more : (w : ℕ) (r : Rule) (k g : ℕ) (old now : List ℕ) → k < length old → g ≡ glyph_at w r (k + 1) → now ≡ places_text w r k ++ drop k old
    → set now k g ≡ places_text w r (k + 1) ++ drop (k + 1) old
unfolding places_text
text-more w r k g old now h e f =
    put_next (places_text w r k) k g old now (text-length w r k) h f
    ∙ ap (λ (x : ℕ). (places_text w r k ++ (x ∷ [])) ++ drop (k + 1) old) (e ∙ ap (glyph_at w r) (add-one k))
    ∙ ap (λ (n : ℕ). places_text w r n ++ drop (k + 1) old) (sym (add-one k))

pub text-none : (w : ℕ) (r : Rule) (old : List ℕ) → old ≡ places_text w r 0 ++ drop 0 old
unfolding places_text
text-none w r old = refl

-- a printed pattern says the rule's places: byte p, counted from 1, is the glyph of place p
pub text-place : (w : ℕ) (r : Rule) (k p : ℕ) → p < k → get_or (places_text w r k) p 0 ≡ glyph_at w r (suc p)
unfolding places_text
text-place w r zero p h = absurd (omega arith)
text-place w r (suc k) p h =
    split (eqb p k)
    (λ e.
    let q : p ≡ k = eqb_yes p k e in
    let l : length (places_text w r k) ≡ p = text-length w r k ∙ sym q in
    ap (λ (n : ℕ). get_or (places_text w r k ++ (glyph_at w r (suc k) ∷ [])) n 0) (sym l)
    ∙ get_or-append_seam (places_text w r k) (glyph_at w r (suc k)) [] 0 ∙ ap (λ (n : ℕ). glyph_at w r (suc n)) (sym q))
    (λ e.
    let n : p ≡ k → ⊥ = no_eqb p k e in
    get_or-append (places_text w r k) (glyph_at w r (suc k) ∷ []) 0 p (omega (arith, text-length w r k))
    ∙ text-place w r k p (omega arith))

-- ---- the whole pattern

no-text : (w : ℕ) (r : Rule) → width_check w ≡ Refuses 1 0 0 → pattern_text w r ≡ None
unfolding pattern_text
no-text w r e = ap (λ (x : Reply). unless_refused x (Some (places_text w r w)) None) e

whole-text : (w : ℕ) (r : Rule) → width_check w ≡ passed → pattern_text w r ≡ Some (places_text w r w)
unfolding pattern_text
whole-text w r e = ap (λ (x : Reply). unless_refused x (Some (places_text w r w)) None) e

module _ (w : ℕ) (r : Rule) (old : List ℕ) where
  pub no-width : width_check w ≡ Refuses 1 0 0 → Put (pattern_text w r) old None old
  no-width e = rw (no-text w r e) (put-none old)

  module _ (g : width_check w ≡ passed) where
    pub too_short : length old < w → Put (pattern_text w r) old None old
    too_short h = rw (whole-text w r g) (put-short (places_text w r w) old (omega (arith, text-length w r w)))

    pub all-places : (k : ℕ) (new : List ℕ) → w ≤ length old → k ≡ w → new ≡ places_text w r k ++ drop k old → Put (pattern_text w r) old (Some w) new
    all-places k new h l e =
        rw (whole-text w r g) (put_all (places_text w r w) old w new (sym (text-length w r w)) h (e ∙ ap (λ (n : ℕ). places_text w r n ++ drop n old) l))

-- ---- the glyph of a place

pub glyph-star : (w : ℕ) (r : Rule) (p : ℕ) → place_bit w r.care p ≡ 0 → 42 ≡ glyph_at w r p
unfolding glyph_at
glyph-star w r p e = sym (ap (λ (t : Bool). choose t 42 (48 + place_bit w r.value p)) (eq-eqb _ _ e))

pub glyph-value : (w : ℕ) (r : Rule) (p : ℕ) → (place_bit w r.care p ≡ 0 → ⊥) → 48 + place_bit w r.value p ≡ glyph_at w r p
unfolding glyph_at
glyph-value w r p n = sym (ap (λ (t : Bool). choose t 42 (48 + place_bit w r.value p)) (ne_eqb _ _ n))
