use Prim.Native.Nat.{◌^◌}
use Rattle.rules.specs.Rules.{answer}
use Rattle.rules.specs.Slices.{rules_in}
use Rattle.plain_compare.proofs.WalkLaws.{Walking}
use Rattle.plain_compare.proofs.walk.walk.Given as goal

abbrev pub invariant-loop-h : goal.invariant-loop-h
invariant-loop-h l = Walking (answer (rules_in l.old)) (answer (rules_in l.new)) (2 ^ l.width) l.start l.h l.initial.first l.initial.last l.initial.old_answer l.initial.new_answer l.first l.last l.old_answer l.new_answer l.count
