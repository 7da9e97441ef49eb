use mathlib.Core.Path.{◌≡◌}
use Prim.Native.Nat.{◌≤◌, ◌<◌}
use Rattle.rules.specs.Slices.{rules_in}
use Rattle.weaving.specs.Inner.{NoRow, NoRows}
use Rattle.weaving.proofs.merging.find_pair.Given as goal

abbrev pub invariant-loop-j : goal.invariant-loop-j
invariant-loop-j l = record {
  end : l.j-iterator.end ≡ l.initial.j-iterator.end;
  later : l.i < l.j-iterator.start;
  order : l.j-iterator.start ≤ l.j-iterator.end;
  row : NoRow (rules_in l.rules) l.i l.j-iterator.start;
}

abbrev pub invariant-loop-i : goal.invariant-loop-i
invariant-loop-i l = NoRows (rules_in l.rules) l.from l.to l.i
