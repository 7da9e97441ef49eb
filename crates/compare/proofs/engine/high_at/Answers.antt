use Prim.Native.Nat.{◌*◌}
use Rattle.words.proofs.SliceLaws.{words-length}
use Rattle.compare.proofs.EngineNumbers.{high-told}
use native.Mathlib.Omega.{arith}
use Rattle.compare.proofs.engine.high_at.Goals as goal

pub overflow_mul-result : goal.overflow_mul-result
overflow_mul-result c = omega (arith, words-length c.args.s.now, c.requires)

pub overflow_add-result : goal.overflow_add-result
overflow_add-result c = omega (arith, words-length c.args.s.now, c.requires)

pub offset_bounds-s-i : goal.offset_bounds-s-i
offset_bounds-s-i c = omega (arith, words-length c.args.s.now, c.requires)

pub bounds-s-i : goal.bounds-s-i
bounds-s-i c = omega (arith, words-length c.args.s.now, c.requires)

pub returns : goal.returns
returns c = high-told _ _ (c.args.i * 2) _ (omega arith) (omega arith) c.requires (omega (arith, c.shared_slice_known-1.given (c.args.i * 2)))
