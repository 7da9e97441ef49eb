use mathlib.Core.Path.{refl}
use native.Mathlib.Omega.{arith}
use borrow.Author.Rules.{rules}
use Rattle.image.proofs.ReadLaws.{held-rules, held-passes, read-refused, read-passed, read-image, read-few, read_held}
use Rattle.image_compare.proofs.CompareLaws.{up-refused}
use Rattle.image_compare.proofs.lists.Room.read.Goals as goal

pub returns-in_err-n : goal.returns-in_err-n
returns-in_err-n c = up-refused _ _ _ _ c.from_residual.ensures.1 (read-refused _ _ _ _ _ _ _ _ _ c.in_err-n.ensures (search rules) (search rules) (search rules) refl)

pub overflow_mul-result : goal.overflow_mul-result
overflow_mul-result c = omega (arith, read-few _ _ _ _ _ _ _ _ _ c.in_ok-n.ensures _ refl)

pub shared_ref_as_front-result : goal.shared_ref_as_front-result
shared_ref_as_front-result c = omega (arith, read-few _ _ _ _ _ _ _ _ _ c.in_ok-n.ensures _ refl)

pub returns : goal.returns
returns c = let h = read_held _ _ _ _ _ _ _ _ _ c.in_ok-n.ensures _ refl in
    record {
      checked = read-passed _ _ _ _ _ _ _ _ _ c.in_ok-n.ensures _ refl;
      fine = λ l. held-passes _ _ l _ _ _ _ (read-image _ _ _ _ _ _ _ _ _ c.in_ok-n.ensures _ refl) h;
      rules = held-rules _ _ _ _ _ h;
    }
