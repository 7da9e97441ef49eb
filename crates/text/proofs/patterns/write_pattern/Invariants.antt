use Rattle.text.specs.Patterns.{places_text}
use Rattle.rules.specs.Rule.{rule_of}
use lib.ListN.{length, drop}
use mathlib.Core.List.{◌++◌}
use mathlib.Core.Path.{◌≡◌}
use Rattle.text.proofs.patterns.write_pattern.Given as goal

abbrev pub invariant-loop-k : goal.invariant-loop-k
invariant-loop-k l = (length l.out ≡ length l.initial.out) × (l.out ≡ places_text l.width (rule_of l.rule) l.k ++ drop l.k l.initial.out)
