-- The number of rules of an image's list: when its check is passed and what it refuses, for the reader and for the writer.
use mathlib.Core.Path.{◌≡◌, ◌∙◌}
use mathlib.Core.Logic.{◌↔◌}
use mathlib.Core.List.{[]}
use Prim.Native.Nat.{ℕ, ◌≤◌, ◌<◌}
use native.Mathlib.Omega.{arith}
use lib.Dec.{leb}
use borrow.Author.Tests.{le-leb, lt-leb, leb-true}
use Rattle.rules.specs.Replies.{Refuses, passed, need}
use Rattle.rules.specs.Checks.{size_check}
use Rattle.rules.proofs.ReplyLaws.{then_next, then-refuses, then-second, need-yes, need-no, need-then, need-passed, Bare, bare-need, bare-then}
use Rattle.image_check.specs.Checks.{count_check}

module _ (l n : ℕ) where
  pub count_none : n < 1 → count_check l n ≡ Refuses 24 l 0
  unfolding count_check
  count_none h = then-refuses _ _ (need-no _ 24 l 0 (lt-leb 1 n h))

  pub count-many : 1024 < n → count_check l n ≡ Refuses 3 l 0
  unfolding count_check size_check
  count-many h = then_next _ _ (need-yes _ 24 l 0 (le-leb 1 n (omega arith))) ∙ need-no _ 3 l 0 (lt-leb n 1024 h)

  pub count-fine : 1 ≤ n → n ≤ 1024 → count_check l n ≡ passed
  unfolding count_check size_check
  count-fine h k = then_next _ _ (need-yes _ 24 l 0 (le-leb 1 n h)) ∙ need-yes _ 3 l 0 (le-leb n 1024 k)

  pub count-facts : count_check l n ≡ passed → (1 ≤ n) × (n ≤ 1024)
  unfolding count_check size_check
  count-facts f = (
    leb-true _ _ (need-then (leb 1 n) 24 l 0 _ [] f),
    leb-true _ _ (need-passed (leb n 1024) 3 l 0 (then-second (need (leb 1 n) 24 l 0) _ [] f)),
  )

  -- A list of an image passes exactly when it has from 1 to 1,024 rules.
  pub count-exactly : (count_check l n ≡ passed) ↔ ((1 ≤ n) × (n ≤ 1024))
  count-exactly = (count-facts, λ p. count-fine p.0 p.1)

  pub bare-count : Bare (count_check l n)
  unfolding count_check size_check
  bare-count = bare-then (need (leb 1 n) 24 l 0) _ (bare-need (leb n 1024) 3 l 0)
