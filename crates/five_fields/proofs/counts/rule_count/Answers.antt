use Rattle.five_fields.specs.FiveFieldRule.{rule_of}
use mathlib.Core.Path.{sym, ap₂, ◌∙◌}
use Prim.Native.Nat.{ℕ, ◌*◌}
use native.Mathlib.Omega.{arith}
use Rattle.five_fields.proofs.CheckLaws.{ports-both, port-range}
use Rattle.five_fields.proofs.CountLaws.{ports-few, pairs-most, expansion-count}
use Rattle.five_fields.proofs.counts.rule_count.Goals as goal

pub prefix_count-requires : goal.prefix_count-requires
prefix_count-requires c = (ports-both 0 _ c.requires).0

pub prefix_count-requires-2 : goal.prefix_count-requires-2
prefix_count-requires-2 c = (ports-both 0 _ c.requires).1

pub overflow_mul-result : goal.overflow_mul-result
overflow_mul-result c = let r = rule_of c.args.rule in
    let p = ports-both 0 r c.requires in
    omega (arith, pairs-most c.prefix_count.result c.prefix_count-2.result (omega (arith, ports-few _ _ (port-range r.source_low r.source_high p.0), c.prefix_count.ensures)) (omega (arith, ports-few _ _ (port-range r.destination_low r.destination_high p.1), c.prefix_count-2.ensures)))

pub returns : goal.returns
returns c = ap₂ (λ (x y : ℕ). x * y) c.prefix_count.ensures c.prefix_count-2.ensures ∙ sym (expansion-count _)
