use Rattle.text.specs.Decimal.{decimal}
use lib.ListN.{length, drop}
use Prim.Native.Nat.{◌≤◌, ◌<◌, ◌^◌}
use mathlib.Core.List.{◌++◌}
use mathlib.Core.Path.{◌≡◌}
use Rattle.text.proofs.decimal.digits_before.Given as goal

abbrev pub invariant-loop-number : goal.invariant-loop-number
invariant-loop-number l = (1 ≤ l.at) × (l.at ≤ 39) × (length l.space ≡ 39) × (l.number < 10 ^ l.at) × (decimal l.initial.number ++ drop l.end l.initial.space ≡ decimal l.number ++ drop l.at l.space)

abbrev pub decreases-loop-number : goal.decreases-loop-number
decreases-loop-number l = l.at
