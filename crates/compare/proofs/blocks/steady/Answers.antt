use mathlib.Core.Path.{sym, ◌∙◌}
use Rattle.compare.proofs.EngineRules.{next-spotted}
use Rattle.compare.proofs.SweepSteps.{steady-only, nothing-answers, nothing-ready, steady-engine}
use Rattle.compare.proofs.blocks.steady.Goals as goal

pub returns-then-only : goal.returns-then-only
returns-then-only c = λ e. let E = next-spotted c.requires.0.decisions c.next-s.ensures in steady-only _ _ _ _ _ _ _ _ _ E.0.after E.0.few E.0.none (c.only.ensures c.if-only.true)

pub differs-requires : goal.differs-requires
differs-requires c = (c.requires.0, nothing-ready, c.requires.2, λ e. sym c.requires.3 ∙ sym (nothing-answers _ _ _))

pub returns : goal.returns
returns c = steady-engine _ _ _ _ _ _ c.differs.ensures.decided _ c.is_none.ensures
