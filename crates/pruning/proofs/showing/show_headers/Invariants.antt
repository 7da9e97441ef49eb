use lib.ListN.{take}
use Rattle.rules.specs.Slices.{rules_in}
use Rattle.pruning.specs.Inner.{Shown}
use Rattle.pruning.proofs.showing.show_headers.Given as goal

abbrev pub invariant-loop-k : goal.invariant-loop-k
invariant-loop-k l = Shown l.width (take l.count (rules_in l.rules)) l.k l.initial.header l.header
