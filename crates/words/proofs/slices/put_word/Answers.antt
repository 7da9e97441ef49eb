use Rattle.std.proofs.Common.{arith, length-set}
use Rattle.words.proofs.SliceLaws.{put-inside, with-past}
use Rattle.words.proofs.slices.put_word.Goals as goal

pub bounds-s-i-then-i-s : goal.bounds-s-i-then-i-s
bounds-s-i-then-i-s c = simp length-set (omega arith)

pub returns-then-i-s : goal.returns-then-i-s
returns-then-i-s c = put-inside _ _ _ _ _ (omega arith) (omega arith) (omega arith)

pub returns-else-i-s : goal.returns-else-i-s
returns-else-i-s c = with-past _ _ _ (omega arith)
