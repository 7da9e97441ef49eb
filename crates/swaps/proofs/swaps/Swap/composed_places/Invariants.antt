use mathlib.Core.Path.{◌≡◌}
use Rattle.rules.specs.Checks.{widest}
use Rattle.swaps.specs.Swaps.{array_of}
use Rattle.swaps.proofs.SwapSteps.{through}
use Rattle.swaps.proofs.swaps.Swap.composed_places.Given as goal

abbrev pub invariant-loop-i : goal.invariant-loop-i
invariant-loop-i l = l.out ≡ array_of widest l.i (through l.self.places l.then.places)
