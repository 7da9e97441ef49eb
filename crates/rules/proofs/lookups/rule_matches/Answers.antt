use Rattle.words.proofs.WordLaws.{same-told}
use Rattle.rules.specs.Rules.{matches}
use Rattle.rules.proofs.lookups.rule_matches.Goals as goal

pub returns : goal.returns
unfolding matches
returns c = same-told _ _ c.eq.ensures c.bitand.ensures
