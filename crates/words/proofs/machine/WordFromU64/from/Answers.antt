use Rattle.std.proofs.Common.{arith}
use Rattle.words.proofs.WordLaws.{made}
use Rattle.words.proofs.machine.WordFromU64.from.Goals as goal

pub returns : goal.returns
returns c = made _ 0 _ (omega arith) (omega arith)
