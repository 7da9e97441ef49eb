use mathlib.Core.Path.{◌≡◌}
use Prim.Native.Nat.{◌-◌}
use lib.ListN.{length}
use Rattle.ranges.proofs.PutLaws.{Putting}
use Rattle.ranges.proofs.ranges.put_below.Given as goal

abbrev pub invariant-loop-at : goal.invariant-loop-at
invariant-loop-at l = (length l.care ≡ length l.initial.care) × (length l.value ≡ length l.initial.value) × Putting l.bits l.low l.end l.initial.care l.initial.value l.at l.n l.care l.value

abbrev pub decreases-loop-at : goal.decreases-loop-at
decreases-loop-at l = l.end - l.at
