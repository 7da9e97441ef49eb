use native.Mathlib.Omega.{arith}
use Rattle.image_form.proofs.FormatLaws.{layout-rule}
use Rattle.image_form.proofs.NumberLaws.{length_part}
use Rattle.image_form.proofs.PartLaws.{rule-made, rule-zeros}
use mathlib.Core.Path.{ap, ◌∙◌}
use lib.ListN.{length}
use Rattle.image_form.proofs.parts.rule_in.Goals as goal

pub rule_here-requires : goal.rule_here-requires
rule_here-requires c = let e = c.in-Some.ensures in
    ap length e.1 ∙ length_part _ _ _ e.0 ∙ layout-rule _ _ c.layout.ensures

pub returns-in-Some : goal.returns-in-Some
returns-in-Some c = let e = c.in-Some.ensures in
    rule-made _ _ _ _ _ _ (layout-rule _ _ c.layout.ensures) e.0 e.1 c.rule_here.ensures

pub returns : goal.returns
returns c = rule-zeros _ _ _ (omega (arith, layout-rule _ _ c.layout.ensures, c.in_default.ensures))
