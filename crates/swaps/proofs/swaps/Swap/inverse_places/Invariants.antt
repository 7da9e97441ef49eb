use Rattle.rules.specs.Checks.{widest}
use Rattle.swaps.proofs.SwapSteps.{Seats}
use Rattle.swaps.proofs.swaps.Swap.inverse_places.Given as goal

abbrev pub invariant-loop-i : goal.invariant-loop-i
invariant-loop-i l = Seats widest l.self.width l.self.places l.i l.out
