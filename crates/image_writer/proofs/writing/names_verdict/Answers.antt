use mathlib.Core.Path.{refl, sym, ◌∙◌}
use native.Mathlib.Omega.{arith}
use Rattle.image_writer.proofs.GivenLaws.{names-thirteen, names-twenty-four, names-three, names-pass, names-end}
use Rattle.image_writer.proofs.writing.names_verdict.Goals as goal

pub returns-then-id-least : goal.returns-then-id-least
returns-then-id-least c = c.refused.ensures ∙ sym (c.loop-i.invariant ∙ names-thirteen c.loop-i.least c.loop-i.i _ _ (omega arith) c.requires _ c.from-id.ensures (omega arith))

pub returns-then-count-lt1 : goal.returns-then-count-lt1
returns-then-count-lt1 c = c.refused-then-count-lt1.ensures ∙ sym (c.loop-i.invariant ∙ names-twenty-four c.loop-i.least c.loop-i.i _ _ (omega arith) c.requires _ c.from-id.ensures (omega arith) _ refl (omega arith))

pub returns-then-count-gt1024 : goal.returns-then-count-gt1024
returns-then-count-gt1024 c = c.refused-then-count-gt1024.ensures ∙ sym (c.loop-i.invariant ∙ names-three c.loop-i.least c.loop-i.i _ _ (omega arith) c.requires _ c.from-id.ensures (omega arith) _ refl (omega arith))

pub loop-i-preserved : goal.loop-i-preserved
loop-i-preserved c = c.loop-i.invariant ∙ names-pass c.loop-i.least c.loop-i.i _ _ (omega arith) c.requires _ c.from-id.ensures (omega arith) _ refl (omega arith) (omega arith)

pub returns : goal.returns
returns c = sym (c.loop-i.invariant ∙ names-end c.loop-i.least c.loop-i.i _ _ (omega arith))
