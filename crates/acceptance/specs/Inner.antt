-- What only contracts inside `accept` cite.
use Rattle.std.specs.Prelude.{ℕ, ◌≡◌, Result}
use Rattle.compare.specs.Differing.{lowest_difference}
use Rattle.acceptance.specs.declared.Rejection.{Rejection}
use Rattle.acceptance.specs.Rejections.{accepted_reply, beside_values, header_told}
use Rattle.acceptance.specs.Accepting.{alike_check, of_lowest}

-- What is said of two answers f and g by the lowest header on which they differ.
pub record Judged (w : ℕ) (f g : ℕ → ℕ) (r : Result (Unit {0}) Rejection) : Type 0 where
  pub reply : accepted_reply r ≡ alike_check (lowest_difference w f g)
  pub told : beside_values r ≡ of_lowest (header_told f g) (lowest_difference w f g)
