use Rattle.std.proofs.Common.{◌*◌, arith}
use Rattle.words.proofs.SliceLaws.{read-inside, read_past}
use Rattle.words.proofs.slices.word_at.Goals as goal

pub returns-then-i-s : goal.returns-then-i-s
returns-then-i-s c = read-inside _ _ _ _ (omega arith) (omega arith) (omega arith) (omega (arith, c.shared_slice_known-1.given (c.args.i * 2)))

pub returns : goal.returns
returns c = read_past _ _ (omega arith)
