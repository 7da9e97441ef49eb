use Prim.Native.Nat.{◌-◌}
use Rattle.rules.specs.Slices.{rules_in}
use Rattle.weaving.proofs.SizeLaws.{Sized}
use Rattle.weaving.proofs.cutting.put_sizes.Given as goal

abbrev pub invariant-loop-from : goal.invariant-loop-from
invariant-loop-from l = Sized (rules_in l.rules) l.initial.sizes l.sizes l.from l.at

abbrev pub decreases-loop-from : goal.decreases-loop-from
decreases-loop-from l = l.count - l.from
