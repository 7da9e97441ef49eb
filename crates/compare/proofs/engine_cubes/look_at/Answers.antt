use mathlib.Core.Path.{◌≡◌, sym, ◌∙◌}
use Rattle.words.specs.Halves.{num}
use Rattle.compare.specs.EngineSets.{answer_in}
use Rattle.compare.proofs.EngineHalves.{tell-same, tell-full, tell-apart, tell-split}
use Rattle.compare.proofs.engine_cubes.look_at.Goals as goal
use Rattle.compare.proofs.engine_cubes.look_at.Goals.{After-is_full, else-not-seen-via-then-not-seen+else-answer, else-not-seen-via-else-not-seen}

-- the two sets answer alike at the cube's value
alike : (c : After-is_full) → let a = c.args in
    answer_in a.old.now (num a.cube.value) ≡ answer_in a.new.now (num a.cube.value)
alike c = elim c.else-not-seen.branch [
  | else-not-seen-via-then-not-seen+else-answer w ↦ sym w.answer.ensures ∙ w.if-answer.false ∙ w.answer-then-not-seen.ensures
  | else-not-seen-via-else-not-seen w ↦ c.requires.4 w.if-not-seen.false
]

pub returns-in_default : goal.returns-in_default
returns-in_default c = tell-same _ _ _ _ (c.agree.ensures c.in_default.is)

pub returns-then-answer : goal.returns-then-answer
returns-then-answer c = tell-apart _ _ _ _ (λ q. c.if-answer.true (c.answer.ensures ∙ q ∙ sym c.answer-then-not-seen.ensures))

pub returns-then-is_full : goal.returns-then-is_full
returns-then-is_full c = tell-full _ _ _ _ (c.is_full.ensures.0 c.if-is_full.true) (alike (goal.at.returns-then-is_full c).After-is_full)

pub returns : goal.returns
returns c = tell-split _ _ _ _ _ c.pick.result c.place.ensures c.pick.ensures.1 (alike (goal.at.returns c).After-is_full)
