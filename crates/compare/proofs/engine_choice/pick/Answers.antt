use mathlib.Core.Path.{sym, ◌∙◌}
use Rattle.words.proofs.WordLaws.{num-lt, holds}
use Rattle.compare.proofs.EngineFree.{wanted-place, free-place}
use native.Mathlib.Omega.{arith}
use Rattle.compare.proofs.engine_choice.pick.Goals as goal

pub overflow_sub-result : goal.overflow_sub-result
overflow_sub-result c = omega (arith, free-place _ _ _ (num-lt c.args.care (omega arith) (omega arith)) c.requires (holds c.not.ensures) c.leading_zeros.ensures)

pub returns-then-is_zero : goal.returns-then-is_zero
returns-then-is_zero c = (
  omega arith,
  (free-place _ _ _ (num-lt c.args.care (omega arith) (omega arith)) c.requires (holds c.not.ensures) c.leading_zeros.ensures).1,
  num-lt c.args.care (omega arith) (omega arith),
)

pub overflow_sub-result-2 : goal.overflow_sub-result-2
overflow_sub-result-2 c = omega (arith, wanted-place _ _ _ _ (num-lt c.args.want (omega arith) (omega arith)) (holds c.without-open.ensures) (sym c.is_zero.ensures ∙ c.if-is_zero.false) c.leading_zeros-2.ensures)

pub returns : goal.returns
returns c = (
  omega arith,
  (wanted-place _ _ _ _ (num-lt c.args.want (omega arith) (omega arith)) (holds c.without-open.ensures) (sym c.is_zero.ensures ∙ c.if-is_zero.false) c.leading_zeros-2.ensures).1,
  num-lt c.args.care (omega arith) (omega arith),
)
