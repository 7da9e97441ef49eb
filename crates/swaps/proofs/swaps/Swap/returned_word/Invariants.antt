use mathlib.Core.Path.{◌≡◌}
use Rattle.words.specs.Halves.{num, halves}
use Rattle.swaps.proofs.ReturnLaws.{Returning}
use Rattle.swaps.proofs.swaps.Swap.returned_word.Given as goal

abbrev pub invariant-loop-left : goal.invariant-loop-left
invariant-loop-left l = (l.out ≡ halves (num l.out)) × Returning l.self.width l.self.places (num l.initial.left) (num l.out) (num l.left)

abbrev pub decreases-loop-left : goal.decreases-loop-left
decreases-loop-left l = num l.left
