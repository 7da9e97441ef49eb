use Rattle.compare.proofs.engine_choice.tally.Given as goal

abbrev pub invariant-loop-some : goal.invariant-loop-some
invariant-loop-some l = Unit {0}

abbrev pub decreases-loop-some : goal.decreases-loop-some
decreases-loop-some l = l.some
