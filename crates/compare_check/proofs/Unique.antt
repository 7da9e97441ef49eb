-- No second result: for each public call, two results that meet its promise are equal.
use mathlib.Core.Path.{◌≡◌, sym, ◌∙◌}
use mathlib.Core.List.{List}
use Prim.Native.Nat.{ℕ}
use Rattle.rules.specs.declared.Refusal.{Refusal}
use Rattle.rules.specs.Replies.{verdict_reply}
use Rattle.rules.proofs.ReplyLaws.{one-verdict}
use Rattle.std.specs.Prelude.{Option, Result}
use Rattle.compare_check.specs.Outcomes.{miss_number}
use Rattle.compare_check.specs.Checks.{outcomes_check}

-- `miss_number`
pub miss-number-once : (default : Option ℕ) (m n : ℕ) → m ≡ miss_number default → n ≡ miss_number default → m ≡ n
miss-number-once default m n p q = p ∙ sym q

-- `check_comparison`
pub check-comparison-once : (w : ℕ) (oc ov od : List ℕ) (old : Option ℕ) (nc nv nd : List ℕ) (new : Option ℕ) (start a b c d : ℕ) (u v : Result (Unit {0}) Refusal)
    → verdict_reply u ≡ outcomes_check w oc ov od old nc nv nd new start a b c d
    → verdict_reply v ≡ outcomes_check w oc ov od old nc nv nd new start a b c d
    → u ≡ v
check-comparison-once w oc ov od old nc nv nd new start a b c d u v p q = one-verdict u v (p ∙ sym q)
