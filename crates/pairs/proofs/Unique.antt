-- No second result: for each public call on two rules, two results that meet its promise are equal.
use mathlib.Core.Path.{◌≡◌, refl, sym, ◌∙◌}
use mathlib.Core.Bool.{Bool, true, false}
use Prim.Native.Nat.{ℕ}
use Rattle.std.specs.Prelude.{Result}
use Rattle.rules.specs.declared.Refusal.{Refusal}
use Rattle.rules.specs.Replies.{Gives, number_reply}
use Rattle.rules.specs.Rule.{Rule}
use Rattle.rules.specs.Rules.{covers, crosses}
use Rattle.rules.proofs.ReplyLaws.{one-reply, one-number}
use Rattle.pairs.specs.Calls.{yes_or_no_values, holds_reply, covers_reply, crosses_reply, distance_reply}

-- ---- one answer for each reply

-- yes and no have different numbers
one_yes : (x y : Bool) → Gives (yes_or_no_values x) ≡ Gives (yes_or_no_values y) → x ≡ y
one_yes true true e = refl
one_yes true false e = cc
one_yes false true e = cc
one_yes false false e = refl

-- two answers on whether something holds, with one reply
pub one_holds : (a b : Result Bool Refusal) → holds_reply a ≡ holds_reply b → a ≡ b
one_holds a b e = one-reply yes_or_no_values one_yes a b e

-- ---- one result for each call

-- `covers`
pub covers-once : (w : ℕ) (x y : Rule) (a b : Result Bool Refusal) → holds_reply a ≡ covers_reply w x y → holds_reply b ≡ covers_reply w x y → a ≡ b
covers-once w x y a b p q = one_holds a b (p ∙ sym q)

-- `crosses`
pub crosses-once : (w : ℕ) (x y : Rule) (a b : Result Bool Refusal) → holds_reply a ≡ crosses_reply w x y → holds_reply b ≡ crosses_reply w x y → a ≡ b
crosses-once w x y a b p q = one_holds a b (p ∙ sym q)

-- `distance`
pub distance-once : (w : ℕ) (x y : Rule) (a b : Result ℕ Refusal) → number_reply a ≡ distance_reply w x y → number_reply b ≡ distance_reply w x y → a ≡ b
distance-once w x y a b p q = one-number a b (p ∙ sym q)

-- `rule_covers`
pub rule-covers-once : (x y : Rule) (a b : Bool) → a ≡ covers x y → b ≡ covers x y → a ≡ b
rule-covers-once x y a b p q = p ∙ sym q

-- `rule_crosses`
pub rule-crosses-once : (x y : Rule) (a b : Bool) → a ≡ crosses x y → b ≡ crosses x y → a ≡ b
rule-crosses-once x y a b p q = p ∙ sym q
