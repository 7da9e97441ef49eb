use Rattle.std.proofs.Common.{◌+◌, ◌/◌, ◌^◌, arith}
use Rattle.words.proofs.WordLaws.{plus-made}
use Rattle.words.proofs.steps.plus.Goals as goal

pub returns-then-low-a : goal.returns-then-low-a
returns-then-low-a c = plus-made c.args.a c.args.b _ _ 1 ((c.args.a.high + c.args.b.high + 1) / 2 ^ 64) (omega arith) (omega arith) (omega arith) (omega arith)

pub returns : goal.returns
returns c = plus-made c.args.a c.args.b _ _ 0 ((c.args.a.high + c.args.b.high + 0) / 2 ^ 64) (omega arith) (omega arith) (omega arith) (omega arith)
