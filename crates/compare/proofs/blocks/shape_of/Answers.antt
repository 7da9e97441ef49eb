use mathlib.Core.Path.{sym, ◌∙◌}
use borrow.Author.Tests.{ltb-true, ltb-false}
use Rattle.compare.proofs.SweepSteps.{shape-before, shape_same, shape-mixed, shape-piece, full-cube}
use Rattle.compare.proofs.blocks.shape_of.Goals as goal

pub returns-then-less : goal.returns-then-less
returns-then-less c = shape-before _ _ _ _ _ _ (ltb-true _ _ (sym c.less.ensures ∙ c.if-less.true))

pub returns-then-a-b : goal.returns-then-a-b
returns-then-a-b c = shape_same _ _ _ _ _ _ (sym c.answer-a.ensures ∙ c.if-a-b.true ∙ c.answer-b.ensures)

pub returns-then-k-eq0 : goal.returns-then-k-eq0
returns-then-k-eq0 c = shape-piece _ _ _ _ _ _ _ _ (ltb-false _ _ (sym c.less.ensures ∙ c.if-less.false)) c.if-a-b.false (full-cube _ _ _ _ (c.requires.5 c.if-k-eq0.true) (sym c.answer-a.ensures)) (full-cube _ _ _ _ (c.requires.5 c.if-k-eq0.true) (sym c.answer-b.ensures))

pub returns-then-answer-a : goal.returns-then-answer-a
returns-then-answer-a c = shape-mixed _ _ _ _ _ _ c.if-k-eq0.false

pub returns-then-steady-2 : goal.returns-then-steady-2
returns-then-steady-2 c = shape-piece _ _ _ _ _ _ _ _ (ltb-false _ _ (sym c.less.ensures ∙ c.if-less.false)) c.if-a-b.false (c.steady.ensures c.if-steady.true) (c.steady-then-steady.ensures c.if-steady-2.true)

pub returns : goal.returns
returns c = shape-mixed _ _ _ _ _ _ c.if-k-eq0.false
