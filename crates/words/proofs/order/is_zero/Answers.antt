use Rattle.words.proofs.WordLaws.{zero-made}
use Rattle.words.proofs.order.is_zero.Goals as goal

pub returns : goal.returns
returns c = zero-made _ c.from.ensures c.eq.ensures
