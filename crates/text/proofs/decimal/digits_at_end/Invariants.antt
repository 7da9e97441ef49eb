use Rattle.text.specs.Decimal.{decimal}
use lib.ListN.{length, drop}
use Prim.Native.Nat.{◌≤◌, ◌<◌, ◌^◌}
use mathlib.Core.List.{◌++◌}
use mathlib.Core.Path.{◌≡◌}
use Rattle.text.proofs.decimal.digits_at_end.Given as goal

abbrev pub invariant-loop-rest : goal.invariant-loop-rest
invariant-loop-rest l = (1 ≤ l.at) × (l.at ≤ 39) × (length l.space ≡ 39) × (l.rest < 10 ^ l.at) × (decimal l.initial.rest ≡ decimal l.rest ++ drop l.at l.space)

abbrev pub decreases-loop-rest : goal.decreases-loop-rest
decreases-loop-rest l = l.at
