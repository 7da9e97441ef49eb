use Rattle.image_weaving.proofs.OneLaws.{room-for-any}
use borrow.Author.Rules.{rules}
use Rattle.image_weaving.specs.Weaving.{tally_reply}
use Rattle.image_weaving.proofs.lists.tally.Goals as goal

pub squeeze_list-requires : goal.squeeze_list-requires
squeeze_list-requires c = room-for-any _ _ _ _ _ (search rules) (search rules) (search rules)

pub returns : goal.returns
unfolding tally_reply
returns c = search rules
