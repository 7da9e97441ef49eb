use Rattle.words.proofs.WordLaws.{upper-made}
use Rattle.bits.proofs.powers.upper.Goals as goal

pub returns : goal.returns
returns c = upper-made _ c.lowest.ensures c.not.ensures
