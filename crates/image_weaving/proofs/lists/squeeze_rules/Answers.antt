use Rattle.image_weaving.proofs.OneLaws.{weave-answers, rules-woven}
use Rattle.image_weaving.proofs.lists.squeeze_rules.Goals as goal

pub unwrap-requires : goal.unwrap-requires
unwrap-requires c = weave-answers _ _ _ _ _ _ _ c.requires _ _ _ _ c.weave.ensures

pub returns-in-Weave : goal.returns-in-Weave
returns-in-Weave c = rw c.in-Weave.is (rules-woven _ _ _ _ _ _ _ c.requires _ _ _ _ c.weave.ensures _ c.unwrap.ensures)
