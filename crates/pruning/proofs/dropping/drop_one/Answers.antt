use Rattle.pruning.proofs.PassLaws.{kept-one, dropped-one}
use Rattle.pruning.proofs.dropping.drop_one.Goals as goal

pub returns-then-needless : goal.returns-then-needless
returns-then-needless c = dropped-one _ _ _ _ _ _ c.requires.0 c.requires.1 _ _ _ c.remove_rule.ensures c.needless.ensures c.if-needless.true

pub returns : goal.returns
returns c = kept-one _ _ _ _ _ _ c.requires.0 c.requires.1 c.needless.ensures c.if-needless.false
