use Rattle.compare.proofs.ButLaws.{all_but}
use Rattle.compare.proofs.lowest.leave_out.Goals as goal

pub returns : goal.returns
returns c = all_but _ c.requires.1 _ c.requires.0
