-- The lowest header on which two answers differ (requests 12 and 13). As in `Runs`, an answer is a number for each header.
use Rattle.std.specs.Prelude.{ℕ, ◌^◌, ◌<◌, ◌≡◌, ◌≢◌, List, Bool, not, eqb}
use Rattle.compare.specs.Needed.{lowest_from}

-- Whether two answers differ on a header.
unfoldable pub differ_on : (f g : ℕ → ℕ) → (h : ℕ) → Bool
differ_on f g h = not (eqb (f h) (g h))

-- The lowest header of the width on which they differ; none where they differ on no header.
unfoldable pub lowest_difference : (w : ℕ) → (f g : ℕ → ℕ) → List ℕ
lowest_difference w f g = lowest_from (differ_on f g) (2 ^ w) 0

-- The two answers are the same on every header of the width. That there is no lowest difference just then is the law `alike-exactly`.
abbrev pub AlikeEverywhere : (w : ℕ) → (f g : ℕ → ℕ) → Type 0
AlikeEverywhere w f g = (h : ℕ) → h < 2 ^ w → f h ≡ g h

-- On the header h, which is of the width, they differ, and on no lower one. That the lowest difference is just this header is the law
-- `difference-exactly`.
pub record LowestDifference (w : ℕ) (f g : ℕ → ℕ) (h : ℕ) : Type 0 where
  pub below : h < 2 ^ w
  pub differ : f h ≢ g h
  pub lowest : (x : ℕ) → x < h → f x ≡ g x
