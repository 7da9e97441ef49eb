use Rattle.image_form.proofs.FormatLaws.{layout-body}
use mathlib.Core.Path.{ap, sym, ◌∙◌}
use Prim.Native.Nat.{ℕ, ◌+◌, ◌*◌}
use native.Mathlib.Omega.{arith}
use Rattle.image_form.specs.Formats.{rule_size}
use Rattle.image_writer.proofs.PutLaws.{rules-put, rules-put-end}
use Rattle.rules.proofs.SliceLaws.{rules-length}
use Rattle.rules.specs.Slices.{rules_in}
use Rattle.image_writer.proofs.puts.put_rules.Goals as goal

pub loop-i-preserved : goal.loop-i-preserved
loop-i-preserved c = let o = c.loop-i in
    let a = c.args in
    let l = rules-length _ _ _ c.requires.1 in
    let y = layout-body a.format _ c.layout-rule.ensures o.i in (
      c.put_rule_bytes.auto.out ∙ o.invariant.0,
      sym (rules-put a.format o.out _ (rules_in a.rules) o.i a.from _ _ (omega (arith, l)) (omega (arith, ap (λ (n : ℕ). rule_size a.format * n) l, c.requires.0)) c.rule_at.ensures c.put_rule_bytes.ensures
          (ap (λ (n : ℕ). a.from + n) y.0)) ∙ o.invariant.1,
    )

pub returns : goal.returns
returns c = let o = c.loop-i in
    sym (rules-put-end _ o.out _ o.i _ (omega (arith, rules-length _ _ _ c.requires.1))) ∙ o.invariant.1
