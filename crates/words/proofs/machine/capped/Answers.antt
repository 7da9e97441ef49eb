use Rattle.std.proofs.Common.{arith}
use Rattle.words.proofs.WordLaws.{capped-low, capped-high}
use Rattle.words.proofs.machine.capped.Goals as goal

pub returns-then-a-eq0 : goal.returns-then-a-eq0
returns-then-a-eq0 c = capped-low _ _ (omega arith) c.if-a-eq0.true

pub returns : goal.returns
returns c = capped-high _ c.if-a-eq0.false
