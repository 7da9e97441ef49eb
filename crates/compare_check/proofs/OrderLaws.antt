-- The checks of a comparison: those of a default, the order as the code comes to it, what is known once all are passed, and that without
-- defaults they are those of a comparison of two lists.
use Prim.Native.Nat.{ℕ, ◌*◌, ◌^◌, ◌≤◌, ◌<◌}
use mathlib.Core.Path.{◌≡◌, refl, sym, ap, ◌∙◌}
use mathlib.Core.List.{List}
use native.Mathlib.Omega.{arith}
use lib.Dec.{ltb, leb}
use borrow.Author.Tests.{lt-ltb, le-ltb}
use Rattle.rules.specs.Rules.{no_match}
use Rattle.rules.specs.Replies.{Reply, Gives, Refuses, passed, ◌then◌}
use Rattle.rules.specs.Checks.{width_check, list_check, header_check, room_check, Sound}
use Rattle.rules.specs.Calls.{check_list}
use Rattle.rules.proofs.ReplyLaws.{then_next, then-second, need-yes, need-no, Bare, bare-need, bare-then, bare-first}
use Rattle.rules.proofs.CheckLaws.{list-sound, list-first, sound-list, header-exactly}
use Rattle.std.specs.Prelude.{Option, Some, None}
use Rattle.compare_check.specs.Checks.{results_check, portion_check, compare_check, default_check, outcomes_check}
use Rattle.compare_check.proofs.PortionLaws.{PortionReady, portion-ready, portion-fine}

twice : (x a b p : Reply) → ((x then a) then (x then b) then p) ≡ (x then a then b then p)
twice (Gives ns) a b p = refl
twice (Refuses n l r) a b p = refl

-- four checks in two pairs
in_pairs : (x a b c p : Reply) → (x then a then b then c then p) ≡ ((x then a) then (b then c) then p)
in_pairs (Gives ms) (Gives ns) (Gives os) c p = refl
in_pairs (Gives ms) (Gives ns) (Refuses n l r) c p = refl
in_pairs (Gives ms) (Refuses n l r) b c p = refl
in_pairs (Refuses n l r) a b c p = refl

-- a default by its two cases, and the second by its number
module _ (side : ℕ) (default : Option ℕ) where
  pub default-absent : default ≡ None → default_check side default ≡ passed
  unfolding default_check
  default-absent e = ap (default_check side) e

  module _ (d : ℕ) (e : default ≡ Some d) where
    pub default-refused : d ≡ no_match → default_check side default ≡ Refuses 5 side 0
    unfolding default_check
    default-refused n = ap (default_check side) e ∙ need-no _ 5 side 0 (le-ltb d no_match (omega arith))

    pub default-taken : d ≤ no_match → (d ≡ no_match → ⊥) → default_check side default ≡ passed
    unfolding default_check
    default-taken l n = ap (default_check side) e ∙ need-yes _ 5 side 0 (lt-ltb d no_match (omega arith))

bare-default : (side : ℕ) (default : Option ℕ) → Bare (default_check side default)
unfolding default_check
bare-default side None ns e = refl
bare-default side (Some d) ns e = bare-need (ltb d no_match) 5 side 0 ns e

bare-portion : (w start a b c d : ℕ) → Bare (portion_check w start a b c d)
unfolding portion_check room_check
bare-portion w start a b c d = bare-then (header_check w start) _ (bare-then (results_check a b c d) _ (bare-need (leb 1 c) 7 0 0))

module _ (w : ℕ) (oc ov od : List ℕ) (old : Option ℕ) (nc nv nd : List ℕ) (new : Option ℕ) (start a b c d : ℕ) where
  -- document 01's order is the order of the code, which checks the width with each list
  pub in_order : outcomes_check w oc ov od old nc nv nd new start a b c d
      ≡ (check_list w 1 oc ov od then check_list w 2 nc nv nd then default_check 1 old then default_check 2 new then portion_check w start a b c d)
  unfolding outcomes_check check_list
  in_order =
      sym (twice (width_check w) (list_check w 1 oc ov od) (list_check w 2 nc nv nd)
      (default_check 1 old then default_check 2 new then portion_check w start a b c d))

  -- the same in the parts of the code: both lists, then both defaults, then the rest
  pub in_parts : outcomes_check w oc ov od old nc nv nd new start a b c d
      ≡ ((check_list w 1 oc ov od then check_list w 2 nc nv nd) then (default_check 1 old then default_check 2 new) then portion_check w start a b c d)
  in_parts =
      in_order
      ∙ in_pairs (check_list w 1 oc ov od) (check_list w 2 nc nv nd) (default_check 1 old) (default_check 2 new) (portion_check w start a b c d)

  -- Where the checks are not a refusal, both lists are sound, the defaults pass, and so does the rest.
  pub record ComparisonReady : Type 0 where
    pub old-list : Sound w oc ov od
    pub new-list : Sound w nc nv nd
    pub old-default : default_check 1 old ≡ passed
    pub new-default : default_check 2 new ≡ passed
    pub portion : PortionReady w start a b c d

  pub comparison-ready : {ns : List ℕ} → outcomes_check w oc ov od old nc nv nd new start a b c d ≡ Gives ns → ComparisonReady
  comparison-ready {ns} e =
      let all = sym in_order ∙ e in
      let after-old = then-second (check_list w 1 oc ov od) _ ns all in
      let after-new = then-second (check_list w 2 nc nv nd) _ ns after-old in
      let after-first = then-second (default_check 1 old) _ ns after-new in
      record {
        old-list = list-sound w 1 oc ov od (list-first w 1 oc ov od _ all);
        new-list = list-sound w 2 nc nv nd (list-first w 2 nc nv nd _ after-old);
        old-default = bare-first _ _ (bare-default 1 old) ns after-new;
        new-default = bare-first _ _ (bare-default 2 new) ns after-first;
        portion = portion-ready w start a b c d (bare-portion w start a b c d ns (then-second (default_check 2 new) _ ns after-first));
      }

  -- Two lists that pass: what is left of the checks.
  pub lists-passed : check_list w 1 oc ov od ≡ passed → check_list w 2 nc nv nd ≡ passed
      → outcomes_check w oc ov od old nc nv nd new start a b c d ≡ (default_check 1 old then default_check 2 new then portion_check w start a b c d)
  lists-passed p q = in_order ∙ then_next _ _ p ∙ then_next _ _ q

  -- Two lists that pass, defaults that do, a start of the width and equally many places, at least one, two numbers to a header: the call is
  -- not refused.
  pub valid-not-refused : Sound w oc ov od → Sound w nc nv nd → default_check 1 old ≡ passed → default_check 2 new ≡ passed → start < 2 ^ w
      → a ≡ b → a ≡ c * 2 → a ≡ d * 2 → 1 ≤ c → outcomes_check w oc ov od old nc nv nd new start a b c d ≡ passed
  valid-not-refused S T y z l p q s n =
      lists-passed (sound-list w 1 oc ov od S) (sound-list w 2 nc nv nd T)
      ∙ then_next _ _ y
      ∙ then_next _ _ z
      ∙ portion-fine w start a b c d ((header-exactly w start).1 l) p q s (λ e. omega arith)

-- Without defaults the checks are those of a comparison of two lists.
pub check-without : (w : ℕ) (oc ov od nc nv nd : List ℕ) (start a b c d : ℕ)
    → compare_check w oc ov od nc nv nd start a b c d ≡ outcomes_check w oc ov od None nc nv nd None start a b c d
unfolding compare_check outcomes_check default_check
check-without w oc ov od nc nv nd start a b c d = refl
