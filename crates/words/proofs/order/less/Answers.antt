use Rattle.std.proofs.Common.{arith}
use Rattle.words.proofs.WordLaws.{less-low, less-high}
use Rattle.words.proofs.order.less.Goals as goal

pub returns-then-a-b : goal.returns-then-a-b
returns-then-a-b c = less-low _ _ (omega arith) (omega arith) (omega arith)

pub returns : goal.returns
returns c = less-high _ _ (omega arith) (omega arith) c.if-a-b.false
