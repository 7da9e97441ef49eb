-- The promise of the public call leaves no second result.
use mathlib.Core.Path.{◌≡◌, sym, ap, ◌∙◌}
use Rattle.std.specs.Prelude.{Result, Ok, Err, IfOk}
use Rattle.words.specs.declared.Word.{Word}
use Rattle.words.specs.Halves.{halves}
use Rattle.rules.specs.declared.Refusal.{Refusal}
use Rattle.rules.specs.declared.Wire.{Wire}
use Rattle.rules.proofs.ReplyLaws.{gives-refuses, one-refusal}
use Rattle.five_numbers.specs.Numbers.{Numbers}
use Rattle.five_numbers.specs.Fields.{header_of}
use Rattle.five_numbers.specs.Calls.{built_reply, header_reply}

one-built : (h : Word) (x y : Result Wire Refusal) → IfOk x (λ z. z.0 ≡ h) → IfOk y (λ z. z.0 ≡ h) → built_reply x ≡ built_reply y → x ≡ y
one-built h (Ok x) (Ok y) p q e = ap (λ (z : Word). Ok (record { 0 = z })) (p ∙ sym q)
one-built h (Ok x) (Err y) p q e = absurd (gives-refuses e)
one-built h (Err x) (Ok y) p q e = absurd (gives-refuses (sym e))
one-built h (Err x) (Err y) p q e = ap Err (one-refusal x y e)

-- `header`: two answers that meet the promise are equal
pub header-once : (n : Numbers) (x y : Result Wire Refusal) → built_reply x ≡ header_reply n → IfOk x (λ z. z.0 ≡ halves (header_of n))
    → built_reply y ≡ header_reply n → IfOk y (λ z. z.0 ≡ halves (header_of n)) → x ≡ y
header-once n x y p q r s = one-built (halves (header_of n)) x y q s (p ∙ sym r)
