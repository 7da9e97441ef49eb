use mathlib.Core.Path.{◌≡◌}
use Rattle.words.specs.Halves.{num, halves}
use Rattle.swaps.specs.Swaps.{word_from}
use Rattle.swaps.proofs.SwapSteps.{bits_of}
use Rattle.swaps.proofs.swaps.Swap.moved_word.Given as goal

abbrev pub invariant-loop-place : goal.invariant-loop-place
invariant-loop-place l = l.out ≡ halves (word_from l.place-index (bits_of l.self.width l.self.places (num l.word)))
