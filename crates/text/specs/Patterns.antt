-- Patterns as people write them: 0, 1 and * from place 1 on.
use Rattle.std.specs.Prelude.{ℕ, zero, suc, ◌+◌, List, [], ◌∷◌, ◌++◌, eqb, Option, Some, None}
use Rattle.words.specs.Words.{place_bit}
use Rattle.rules.specs.Rule.{Rule}
use Rattle.rules.specs.Rules.{choose}
use Rattle.rules.specs.Replies.{unless_refused}
use Rattle.rules.specs.Checks.{width_check}

-- What stands for place p of w: `*` where the rule does not care, else `0` or `1` as its value says.
unfoldable pub glyph_at : (w : ℕ) → Rule → ℕ → ℕ
glyph_at w r p = choose (eqb (place_bit w r.care p) 0) 42 (48 + place_bit w r.value p)

-- Places 1 to k of w.
unfoldable pub places_text : (w : ℕ) → Rule → (k : ℕ) → List ℕ
places_text w r zero = []
places_text w r (suc k) = places_text w r k ++ (glyph_at w r (suc k) ∷ [])

-- The whole pattern of a rule of width w; no text at a width that refusal 1 would be given for.
unfoldable pub pattern_text : ℕ → Rule → Option (List ℕ)
unfolding places_text
pattern_text w r = unless_refused (width_check w) (Some (places_text w r w)) None
