-- The promise of `accept` leaves no second answer, and the refusal of a rejection is one.
use mathlib.Core.Path.{◌≡◌, refl, sym, ap, ◌∙◌}
use mathlib.Core.List.{List}
use Prim.Native.Nat.{ℕ}
use Rattle.std.specs.Prelude.{Result, Ok, Err}
use Rattle.words.specs.Halves.{word}
use Rattle.rules.specs.declared.Refusal.{Refusal}
use Rattle.rules.specs.declared.Wire.{Wire}
use Rattle.rules.proofs.ReplyLaws.{gives-refuses, one-refusal}
use Rattle.acceptance.specs.declared.Rejection.{Rejection}
use Rattle.acceptance.specs.Rejections.{refused_as, refusal_of, accepted_reply, beside_values}
use Rattle.acceptance.specs.Accepting.{AcceptDone}
use Rattle.acceptance.proofs.Demands.{nothing, four-values}

one-header : (h i : Wire) (s t c d : ℕ) → h.0.low ≡ i.0.low → h.0.high ≡ i.0.high → s ≡ t → c ≡ d → Rejection.Differs h s c ≡ Rejection.Differs i t d
one-header h i s t c d l u p q = λ j. Rejection.Differs (record { 0 = word (l j) (u j) }) (p j) (q j)

-- One answer for a reply and what stands beside it.
one-accepted : (a b : Result (Unit {0}) Rejection) → accepted_reply a ≡ accepted_reply b → beside_values a ≡ beside_values b → a ≡ b
one-accepted (Ok x) (Ok y) e f = refl
one-accepted (Ok x) (Err y) e f = absurd (gives-refuses e)
one-accepted (Err x) (Ok y) e f = absurd (gives-refuses (sym e))
one-accepted (Err (Rejection.Refused x)) (Err (Rejection.Refused y)) e f = ap (λ (z : Refusal). Err (Rejection.Refused z)) (one-refusal x y e)
one-accepted (Err (Rejection.Refused x)) (Err (Rejection.Differs h s c)) e f = absurd (nothing f)
one-accepted (Err (Rejection.Differs h s c)) (Err (Rejection.Refused y)) e f = absurd (nothing (sym f))
one-accepted (Err (Rejection.Differs h s c)) (Err (Rejection.Differs i t d)) e f =
    let v = four-values f in
    ap Err (one-header h i s t c d v.0 v.1 v.2 v.3)

-- `accept`: two answers that meet the promise are equal
pub accept-once : (w : ℕ) (sc sv sd cc cv cd : List ℕ) (a b : Result (Unit {0}) Rejection) → AcceptDone w sc sv sd cc cv cd a → AcceptDone w sc sv sd cc cv cd b → a ≡ b
accept-once w sc sv sd cc cv cd a b p q = one-accepted a b (p.reply ∙ sym q.reply) (p.told ∙ sym q.told)

-- `Rejection::refusal`
pub refusal-once : (r : Rejection) (x y : Refusal) → x ≡ refusal_of r → y ≡ refusal_of r → x ≡ y
refusal-once r x y p q = p ∙ sym q

-- `Rejection::from`
pub from-once : (x : Refusal) (r s : Rejection) → r ≡ refused_as x → s ≡ refused_as x → r ≡ s
from-once x r s p q = p ∙ sym q
