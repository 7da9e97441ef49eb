use Rattle.five_fields.proofs.PutLaws.{words-length, words_count, pairs-expansion, put_same}
use Rattle.five_fields.proofs.CheckLaws.{ports-both, fields-bounded}
use Rattle.five_fields.specs.FiveFieldRule.{rule_of}
use native.Mathlib.Omega.{arith}
use mathlib.Core.Path.{sym, ap₂, ◌∙◌}
use Prim.Native.Nat.{ℕ, ◌*◌}
use borrow.Author.Rules.{rules}
use Rattle.five_fields.proofs.expansions.put_expansion.Goals as goal

pub put_ports-m-requires : goal.put_ports-m-requires
put_ports-m-requires c = ((ports-both 0 _ c.requires.1).0, search rules, search rules)

pub put_ports-n-requires : goal.put_ports-n-requires
put_ports-n-requires c = ((ports-both 0 _ c.requires.1).1, search rules, search rules)

pub put_pairs-requires : goal.put_pairs-requires
put_pairs-requires c =
    let f = words-length _ _ _ _ _ c.put_ports-m.ensures in
    let g = words-length _ _ _ _ _ c.put_ports-n.ensures in
    let e = ap₂ (λ (x y : ℕ). x * y) f.0 g.0 ∙ words_count (rule_of c.args.rule) _ _ _ _ _ _ c.put_ports-m.ensures c.put_ports-n.ensures in
    (fields-bounded 0 _ c.requires.0, f.0 ∙ sym f.1, g.0 ∙ sym g.1, omega (arith, c.requires.2, e), c.requires.3)

pub overflow_mul-result : goal.overflow_mul-result
overflow_mul-result c = omega (arith, c.requires.2, words_count (rule_of c.args.rule) _ _ _ _ _ _ c.put_ports-m.ensures c.put_ports-n.ensures, c.well_formed)

pub returns : goal.returns
returns c = let r = rule_of c.args.rule in
    (words_count r _ _ _ _ _ _ c.put_ports-m.ensures c.put_ports-n.ensures, put_same (pairs-expansion r _ _ _ _ _ _ c.put_ports-m.ensures c.put_ports-n.ensures) c.put_pairs.ensures)
