-- What only the contracts of the walk cite: what a test tells, and what is listed once a header is passed.
use Rattle.std.specs.Prelude.{ℕ, ◌+◌, ◌≤◌, ◌≡◌, List, Bool, true, false, Option, Some, None}
use Rattle.compare.specs.Sweep.{Listing, Stopped}

-- The test tells whether the fact holds.
abbrev pub Tells : Bool → Type 0 → Type 0
Tells t P = (t ≡ true → P) × (t ≡ false → P → ⊥)

-- The headers up to h are passed: their runs are listed in so many places, or all places are used and the next run starts at h. The slices
-- held first, last, old, new, and hold first', last', old', new'.
unfoldable pub Passed : (f g : ℕ → ℕ) → (start h : ℕ) → (first last old new first' last' old' new' : List ℕ) → Option ℕ → Type 0
Passed f g start h first last old new first' last' old' new' (Some n) = Listing f g start (h + 1) first last old new first' last' old' new' n
Passed f g start h first last old new first' last' old' new' None = Stopped f g start (h + 1) first last old new first' last' old' new' h

-- To pass the header h: from any start up to it, what was listed of the headers before it is then listed of it too.
abbrev pub Passes : (f g : ℕ → ℕ) → (h : ℕ) → (first last old new first' last' old' new' : List ℕ) → (count : ℕ) → Option ℕ → Type 0
Passes f g h first last old new first' last' old' new' count r =
    (start : ℕ) (was-first was-last was-old was-new : List ℕ) → start ≤ h
    → Listing f g start h was-first was-last was-old was-new first last old new count
    → Passed f g start h was-first was-last was-old was-new first' last' old' new' r
