use Rattle.std.proofs.Common.{◌+◌, ◌-◌}
use Rattle.words.specs.Halves.{num}
use Rattle.compare.specs.EngineSets.{answer_in}
use Rattle.compare.proofs.SweepSteps.{Partway}
use Rattle.compare.proofs.sweep.+sweep_sweep_parts.Given as goal

abbrev pub decreases-sweep : goal.decreases-sweep
decreases-sweep l = l.k + l.k

abbrev pub decreases-sweep_parts : goal.decreases-sweep_parts
decreases-sweep_parts l = l.p.k + l.p.k + 1

abbrev pub invariant-sweep_parts-loop-h : goal.invariant-sweep_parts-loop-h
invariant-sweep_parts-loop-h l = Partway (answer_in l.old) (answer_in l.new) (num l.start) l.p l.part
    l.initial.first l.initial.last l.initial.old_answer l.initial.new_answer l.first l.last l.old_answer l.new_answer l.count l.m

abbrev pub decreases-sweep_parts-loop-h : goal.decreases-sweep_parts-loop-h
decreases-sweep_parts-loop-h l = num l.p.high - num l.part.value
