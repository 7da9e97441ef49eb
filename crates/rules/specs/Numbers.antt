-- The numbers of the refusals that have a name (01, Refusal numbers). Any other number is free for a caller's own.
use Rattle.std.specs.Prelude.{ℕ, Bool, ◌||◌}
use Rattle.std.specs.Prelude.{◌==◌}

abbrev pub is_named : ℕ → Bool
is_named n = n == 1 || n == 2 || n == 3 || n == 4 || n == 5 || n == 6 || n == 7 || n == 8 || n == 9 || n == 10 || n == 11 || n == 12 || n == 13
    || n == 14 || n == 15 || n == 16 || n == 20 || n == 23 || n == 24 || n == 27 || n == 28
