-- Laws of what a comparison checks last: which refusal each test gives, and what is known once all are passed.
use Prim.Native.Nat.{ℕ, ◌*◌, ◌/◌, ◌%◌, ◌^◌, ◌<◌}
use mathlib.Core.Path.{◌≡◌, sym, ◌∙◌}
use mathlib.Core.List.{[]}
use mathlib.Core.Bool.{◌&&◌}
use native.Mathlib.Omega.{arith}
use lib.Dec.{ltb, eqb}
use borrow.Author.Tests.{ltb-true, eq-eqb}
use Rattle.words.proofs.Tests.{split, and-true, true-and, eqb_yes}
use Rattle.rules.specs.Replies.{Refuses, passed, need, ◌then◌}
use Rattle.rules.specs.Checks.{header_check, room_check}
use Rattle.rules.proofs.CheckLaws.{room-no, room-yes}
use Rattle.rules.proofs.ReplyLaws.{then_next, then-refuses, then-second, need-yes, need-no, need-then}
use Rattle.compare_check.specs.Checks.{results_check, portion_check}

module _ (w start a b c d : ℕ) (inside : header_check w start ≡ passed) where
  results : portion_check w start a b c d ≡ (results_check a b c d then room_check 1 c)
  unfolding portion_check
  results = then_next _ _ inside

  -- the four tests of the code say together what the definition asks of the lengths
  pub portion-two : (a ≡ b → a % 2 ≡ 0 → a / 2 ≡ c → a / 2 ≡ d → ⊥) → portion_check w start a b c d ≡ Refuses 2 0 0
  unfolding results_check
  portion-two n =
      split (eqb a b && (eqb a (c * 2) && eqb a (d * 2)))
      (λ y.
      let p = and-true (eqb a b) _ y in
      let q = and-true (eqb a (c * 2)) _ p.1 in
      let e : a ≡ c * 2 = eqb_yes _ _ q.0 in
      let f : a ≡ d * 2 = eqb_yes _ _ q.1 in
      absurd (n (eqb_yes _ _ p.0) (omega arith) (omega arith) (omega arith)))
      (λ z. results ∙ then-refuses _ _ (need-no _ 2 0 0 z))

  module _ (p : a ≡ b) (q : a ≡ c * 2) (s : a ≡ d * 2) where
    room : portion_check w start a b c d ≡ room_check 1 c
    unfolding results_check
    room = results ∙ then_next _ _ (need-yes _ 2 0 0 (true-and (eq-eqb _ _ p) (true-and (eq-eqb _ _ q) (eq-eqb _ _ s))))

    pub portion-seven : c ≡ 0 → portion_check w start a b c d ≡ Refuses 7 0 0
    portion-seven e = room ∙ room-no 1 c (omega arith)

    pub portion-fine : (c ≡ 0 → ⊥) → portion_check w start a b c d ≡ passed
    portion-fine e = room ∙ room-yes 1 c (omega arith)

-- what they say once they are passed
pub record PortionReady (w start a b c d : ℕ) : Type 0 where
  pub below : start < 2 ^ w
  pub lasts : b ≡ a
  pub olds : c * 2 ≡ a
  pub news : d * 2 ≡ a

pub portion-ready : (w start a b c d : ℕ) → portion_check w start a b c d ≡ passed → PortionReady w start a b c d
unfolding portion_check header_check results_check
portion-ready w start a b c d e =
    let h = need-then (ltb start (2 ^ w)) 6 0 0 _ [] e in
    let t = need-then (eqb a b && (eqb a (c * 2) && eqb a (d * 2))) 2 0 0 _ [] (then-second (need (ltb start (2 ^ w)) 6 0 0) _ [] e) in
    let p = and-true (eqb a b) _ t in
    let q = and-true (eqb a (c * 2)) _ p.1 in
    record {
      below = ltb-true _ _ h;
      lasts = sym (eqb_yes _ _ p.0);
      olds = sym (eqb_yes _ _ q.0);
      news = sym (eqb_yes _ _ q.1);
    }
