use lib.Seq.{length-take-le}
use Rattle.image_weaving.proofs.OneLaws.{prune-answers, rules-pruned}
use borrow.Author.Rules.{rules}
use Rattle.image_weaving.proofs.lists.prune_rules.Goals as goal

pub unwrap-t-requires : goal.unwrap-t-requires
unwrap-t-requires c = prune-answers _ _ _ _ _ _ _ c.requires _ _ _ _ _ _ c.prune.ensures (length-take-le _ _ (search rules))

pub returns : goal.returns
returns c = rules-pruned _ _ _ _ _ _ _ c.requires _ _ _ _ _ _ c.prune.ensures (length-take-le _ _ (search rules)) _ _ _ _ c.unwrap-t.ensures
