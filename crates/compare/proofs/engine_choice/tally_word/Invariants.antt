use Rattle.compare.proofs.engine_choice.tally_word.Given as goal

abbrev pub invariant-loop-x : goal.invariant-loop-x
invariant-loop-x l = Unit {0}

abbrev pub decreases-loop-x : goal.decreases-loop-x
decreases-loop-x l = l.x
