use mathlib.Core.Path.{◌≡◌}
use mathlib.Core.Bool.{true}
use Rattle.ranges.specs.Inner.{opens}
use Rattle.ranges.proofs.ranges.stars_at.Given as goal

abbrev pub invariant-loop-stars : goal.invariant-loop-stars
invariant-loop-stars l = opens l.at l.end l.stars ≡ true
