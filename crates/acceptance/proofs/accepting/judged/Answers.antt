use mathlib.Core.Path.{refl}
use Rattle.words.proofs.WordLaws.{holds}
use Rattle.acceptance.proofs.JudgeLaws.{never-refused, judged-fine, judged-unlike}
use Rattle.acceptance.proofs.accepting.judged.Goals as goal

pub unwrap-compared-requires : goal.unwrap-compared-requires
unwrap-compared-requires c = never-refused _ _ _ _ _ _ _ c.requires.0 c.requires.1 _ (holds c.from.ensures) _ _ _ _ _ _ _ _ refl refl refl refl _ c.compare.ensures

pub returns-then-compared-eq0 : goal.returns-then-compared-eq0
returns-then-compared-eq0 c = judged-fine _ _ _ _ _ _ _ c.requires.0 c.requires.1 _ (holds c.from.ensures) _ _ _ _ _ _ _ _ refl refl refl refl _ c.compare.ensures _ c.unwrap-compared.ensures c.if-compared-eq0.true

pub returns : goal.returns
returns c = judged-unlike _ _ _ _ _ _ _ c.requires.0 c.requires.1 _ (holds c.from.ensures) _ _ _ _ _ _ _ _ refl refl refl refl _ c.compare.ensures _ c.unwrap-compared.ensures c.if-compared-eq0.false _ c.word_at.ensures
