-- The theorems of five numbers: each header of 104 places is that of one five numbers, and what the call gives.
use mathlib.Core.Path.{◌≡◌, sym, ap, ◌∙◌}
use mathlib.Core.Bool.{true}
use Prim.Native.Nat.{ℕ, ◌^◌, ◌<◌}
use Rattle.words.specs.Halves.{num}
use Rattle.rules.specs.declared.Wire.{Wire}
use Rattle.std.specs.Prelude.{Ok}
use Rattle.rules.specs.Replies.{need}
use Rattle.rules.proofs.ReplyLaws.{need-then, then-second, one_value}
use Rattle.five_numbers.specs.Numbers.{Numbers}
use Rattle.five_numbers.specs.Fields.{header_bits, header_of, in_fields, numbers_of}
use Rattle.five_numbers.specs.Calls.{built_reply, header_reply}
use Rattle.five_numbers.proofs.FieldLaws.{in-fields, fields_in, joined-lt, header-back, header-within, numbers-back}

-- ---- headers and their five numbers

-- The header of five numbers of their fields has 104 places.
pub header-fits : (n : Numbers) → in_fields n ≡ true → header_of n < 2 ^ header_bits
header-fits n e = joined-lt _ _ _ _ _ (in-fields n e)

-- Each header of 104 places is that of five numbers of their fields, and of no others.
pub record HeaderOfOne (h : ℕ) : Type 0 where
  pub inside : in_fields (numbers_of h) ≡ true
  pub theirs : header_of (numbers_of h) ≡ h
  pub alone : (n : Numbers) → in_fields n ≡ true → header_of n ≡ h → n ≡ numbers_of h

pub header-numbers : (h : ℕ) → h < 2 ^ header_bits → HeaderOfOne h
header-numbers h l =
    record {
      inside = fields_in (numbers_of h) (header-within h l);
      theirs = header-back h;
      alone = λ n e f. sym (numbers-back n (in-fields n e)) ∙ ap numbers_of f;
    }

-- What `header` gives is the header of the five numbers, which are of their fields.
pub header-told : (n : Numbers) (x : Wire) → built_reply (Ok x) ≡ header_reply n → (in_fields n ≡ true) × (num x.0 ≡ header_of n)
unfolding header_reply
header-told n x e = (need-then _ 6 0 0 _ _ (sym e), sym (one_value (then-second (need (in_fields n) 6 0 0) _ _ (sym e))))
