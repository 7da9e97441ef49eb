use Rattle.text.specs.Numbers.{goes_on}
use Rattle.text.proofs.NumberLaws.{some_digits}
use Rattle.words.specs.Halves.{limit}
use lib.ListN.{drop}
use mathlib.Core.Path.{◌≡◌}
use Rattle.text.proofs.numbers.digits_of.Given as goal

abbrev pub invariant-loop-b : goal.invariant-loop-b
invariant-loop-b l = some_digits limit l.base l.bytes ≡ goes_on limit l.base l.n (drop l.b-index l.bytes)
