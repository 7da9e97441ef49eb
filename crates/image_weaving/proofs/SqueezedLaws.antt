-- A squeezed list: what the laws below need of weaving and of pruning. Squeezed lists: they have the ids of their sources and no more rules,
-- and what could be carried before can be carried after.
use mathlib.Core.Path.{◌≡◌, refl, ap, ◌∙◌}
use mathlib.Core.List.{List, [], ◌∷◌, ◌++◌}
use Prim.Native.Nat.{ℕ, zero, suc, ◌+◌, ◌^◌, ◌≤◌, ◌<◌}
use native.Mathlib.Nat.{mul-le-mul_left, mul-le-mul_right}
use native.Mathlib.Omega.{arith}
use lib.ListN.{length, take, drop}
use lib.Seq.{take-suc}
use native.Mathlib.Numerals.{add-one}
use Rattle.rules.specs.Rule.{Rule}
use Rattle.rules.specs.Rules.{answer, Valid}
use Rattle.rules.specs.Lists.{All}
use Rattle.rules.specs.Replies.{passed}
use Rattle.rules.proofs.ReplyLaws.{then_next}
use Rattle.rules.proofs.CheckLaws.{valid-rules}
use Rattle.weaving.proofs.Theorems.{never-longer, weave-keeps-some, weave-keeps-valid, weave-keeps-answers}
use Rattle.pruning.proofs.Theorems.{prune-never-longer, prune-keeps-some, prune-valid, prune-keeps-answers}
use Rattle.image_form.specs.Formats.{rule_size}
use Rattle.image_form.specs.Images.{Named, named}
use Rattle.image_form.proofs.FormatLaws.{rule-least}
use Rattle.image_check.specs.Checks.{lists_check}
use Rattle.image_check.proofs.PassedLaws.{lists-facts}
use Rattle.image.proofs.FullLaws.{HasRules}
use Rattle.image_writer.proofs.AgainLaws.{Rising, all_rules, Carried}
use Rattle.image_writer.proofs.ListLaws.{list_at}
use Rattle.image_weaving.specs.declared.Squeeze.{Squeeze}
use Rattle.image_weaving.specs.Squeezing.{squeezed, squeezed_lists}

-- ---- one list

-- It is never longer.
pub squeezed-never-longer : (z : Squeeze) (w : ℕ) (rs : List Rule) → length (squeezed z w rs) ≤ length rs
squeezed-never-longer Squeeze.Weave w rs = never-longer w rs
squeezed-never-longer Squeeze.Prune w rs = prune-never-longer w rs

-- Valid rules stay valid.
pub squeezed-valid : (z : Squeeze) (w : ℕ) (rs : List Rule) → All (Valid w) rs → All (Valid w) (squeezed z w rs)
squeezed-valid Squeeze.Weave w rs v = weave-keeps-valid w rs v
squeezed-valid Squeeze.Prune w rs v = prune-valid w rs (Valid w) v

-- It keeps an entry of a list that has one.
pub squeezed-keeps-some : (z : Squeeze) (w : ℕ) (rs : List Rule) → All (Valid w) rs → 1 ≤ length rs → 1 ≤ length (squeezed z w rs)
squeezed-keeps-some Squeeze.Weave w rs v k = weave-keeps-some w rs v k
squeezed-keeps-some Squeeze.Prune w rs v k = prune-keeps-some w rs v k

-- It answers every header of the width as the list does.
pub squeezed-answers : (z : Squeeze) (w : ℕ) (rs : List Rule) → All (Valid w) rs → (h : ℕ) → h < 2 ^ w → answer (squeezed z w rs) h ≡ answer rs h
squeezed-answers Squeeze.Weave w rs v h l = weave-keeps-answers w rs v h
squeezed-answers Squeeze.Prune w rs v h l = prune-keeps-answers w rs h l

-- ---- all lists

pub length-squeezed : (z : Squeeze) (w : ℕ) (ls : List Named) → length (squeezed_lists z w ls) ≡ length ls
unfolding squeezed_lists
length-squeezed z w [] = refl
length-squeezed z w (l ∷ ls) = ap suc (length-squeezed z w ls)

pub squeezed-append : (z : Squeeze) (w : ℕ) (ls ms : List Named) → squeezed_lists z w (ls ++ ms) ≡ squeezed_lists z w ls ++ squeezed_lists z w ms
unfolding squeezed_lists
squeezed-append z w [] ms = refl
squeezed-append z w (l ∷ ls) ms = ap (λ (x : List Named). named l.id (squeezed z w l.rules) ∷ x) (squeezed-append z w ls ms)

-- one list more
pub squeezed-more : (z : Squeeze) (w : ℕ) (ls : List Named) (k : ℕ) → k < length ls
    → squeezed_lists z w (take (k + 1) ls) ≡ squeezed_lists z w (take k ls) ++ (named (list_at ls k).id (squeezed z w (list_at ls k).rules) ∷ [])
unfolding squeezed_lists
squeezed-more z w ls k h =
    ap (λ (n : ℕ). squeezed_lists z w (take n ls)) (add-one k) ∙ ap (squeezed_lists z w) (take-suc ls k (named 0 []) h)
    ∙ squeezed-append z w (take k ls) (list_at ls k ∷ [])

-- ---- how many rules

pub squeezed-fewer : (z : Squeeze) (w : ℕ) (ls : List Named) → all_rules (squeezed_lists z w ls) ≤ all_rules ls
unfolding squeezed_lists
squeezed-fewer z w [] = omega arith
squeezed-fewer z w (l ∷ ls) = omega (arith, squeezed-never-longer z w l.rules, squeezed-fewer z w ls)

pub rules-split : (k : ℕ) (ls : List Named) → all_rules (take k ls) + all_rules (drop k ls) ≡ all_rules ls
rules-split zero ls = omega arith
rules-split (suc k) [] = omega arith
rules-split (suc k) (l ∷ ls) = omega (arith, rules-split k ls)

pub rules-at : (k : ℕ) (ls : List Named) → k < length ls → length (list_at ls k).rules ≤ all_rules (drop k ls)
rules-at k [] h = absurd (omega arith)
rules-at zero (l ∷ ls) h = omega arith
rules-at (suc k) (l ∷ ls) h = rules-at k ls (omega arith)

-- no image carries more than 3,640 rules: each takes 18 bytes or more
pub carried-rules : (fmt w : ℕ) (ls : List Named) → Carried fmt w ls → all_rules ls ≤ 3640
carried-rules fmt w ls v = omega (arith, v.size, v.some, mul-le-mul_right (all_rules ls) (rule-least fmt))

-- ---- what an image can carry

pub squeezed-rising : (z : Squeeze) (w least : ℕ) (ls : List Named) → Rising least ls → Rising least (squeezed_lists z w ls)
unfolding squeezed_lists
squeezed-rising z w least [] r = tt
squeezed-rising z w least (l ∷ ls) r = (r.0, r.1, omega (arith, r.2, squeezed-never-longer z w l.rules), squeezed-rising z w (l.id + 1) ls r.3)

squeezed-pass : (z : Squeeze) (w n : ℕ) (ls : List Named) → lists_check w n ls ≡ passed → lists_check w n (squeezed_lists z w ls) ≡ passed
unfolding squeezed_lists lists_check
squeezed-pass z w n [] f = refl
squeezed-pass z w n (l ∷ ls) f =
    let k = lists-facts w n l ls f in
    then_next _ _ (valid-rules w n 1 (squeezed z w l.rules) (squeezed-valid z w l.rules k.0)) ∙ squeezed-pass z w (n + 1) ls k.1

-- no list of the squeezed lists is empty where none of the lists is
pub squeezed-full : (z : Squeeze) (w n : ℕ) (ls : List Named) → lists_check w n ls ≡ passed → All HasRules ls → All HasRules (squeezed_lists z w ls)
unfolding squeezed_lists
squeezed-full z w n [] f u = tt
squeezed-full z w n (l ∷ ls) f u =
    let k = lists-facts w n l ls f in
    (squeezed-keeps-some z w l.rules k.0 u.0, squeezed-full z w (n + 1) ls k.1 u.1)

pub squeezed-carried : (z : Squeeze) (fmt w : ℕ) (ls : List Named) → Carried fmt w ls → Carried fmt w (squeezed_lists z w ls)
squeezed-carried z fmt w ls v =
    let l = length-squeezed z w ls in
    record {
      format = v.format;
      low = v.low;
      high = v.high;
      some = omega (arith, v.some);
      few = omega (arith, v.few);
      rising = squeezed-rising z w 0 ls v.rising;
      full = squeezed-full z w 1 ls v.rules v.full;
      rules = squeezed-pass z w 1 ls v.rules;
      size = omega (arith, v.size, mul-le-mul_left (rule_size fmt) (squeezed-fewer z w ls));
    }
