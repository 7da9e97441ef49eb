-- The promise of the call leaves no second result: two verdicts that both meet it are equal.
use mathlib.Core.Path.{◌≡◌, sym, ◌∙◌}
use mathlib.Core.List.{List}
use Prim.Native.Nat.{ℕ}
use Rattle.rules.specs.declared.Refusal.{Refusal}
use Rattle.std.specs.Prelude.{Result}
use Rattle.rules.specs.Replies.{verdict_reply}
use Rattle.rules.proofs.ReplyLaws.{one-verdict}
use Rattle.image_check.specs.Checks.{image_check}

-- check
pub check-once : (b : List ℕ) (x y : Result (Unit {0}) Refusal) → verdict_reply x ≡ image_check b → verdict_reply y ≡ image_check b → x ≡ y
check-once b x y p q = one-verdict x y (p ∙ sym q)
