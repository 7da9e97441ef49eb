use mathlib.Core.Path.{sym, ◌∙◌}
use Rattle.rules.proofs.ReplyLaws.{stop-up, then_next}
use Rattle.image_check.specs.Checks.{image_check}
use Rattle.image_check.proofs.StepLaws.{contents-total}
use Rattle.image_check.proofs.HeadLaws.{head-facts, head-narrow}
use Rattle.image_check.proofs.checks.check.Goals as goal

pub returns-in_err-head : goal.returns-in_err-head
unfolding image_check
returns-in_err-head c = stop-up _ _ _ _ _ c.from_residual.ensures.1 c.in_err-head.ensures

pub contents-requires : goal.contents-requires
contents-requires c = let h = head-facts _ (sym c.in_ok-head.ensures) in
    (h.least, h.most, h.contents)

pub returns-in_err-contents : goal.returns-in_err-contents
unfolding image_check
returns-in_err-contents c =
    stop-up _ _ _ _ _ c.from_residual-in_err-contents.ensures.1 c.in_err-contents.ensures ∙ sym (then_next _ _ (sym c.in_ok-head.ensures))

pub bodies-requires : goal.bodies-requires
bodies-requires c = let h = head-facts _ (sym c.in_ok-head.ensures) in
    (h.least, h.most, h.wide, head-narrow _ h, contents-total _ (sym c.in_ok-contents.ensures))

pub returns : goal.returns
unfolding image_check
returns c = c.bodies.ensures ∙ sym (then_next _ _ (sym c.in_ok-head.ensures) ∙ then_next _ _ (sym c.in_ok-contents.ensures))
