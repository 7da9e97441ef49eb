-- Laws of the words of an entry, as the code makes them.
use mathlib.Core.Path.{◌≡◌, ap, ap₂, ◌∙◌}
use mathlib.Core.Bool.{true}
use Prim.Native.Nat.{ℕ, ◌-◌, ◌^◌, ◌≤◌, ◌<◌}
use native.Mathlib.Omega.{arith}
use lib.Pow.{pow_pos}
use Rattle.words.specs.declared.Word.{Word}
use Rattle.words.specs.Halves.{halves}
use Rattle.rules.specs.declared.Rule.{Rule as Held}
use Rattle.rules.specs.declared.Wire.{Wire}
use Rattle.rules.specs.declared.Refusal.{Refusal}
use Rattle.five_numbers.specs.Numbers.{Numbers}
use Rattle.five_numbers.specs.Calls.{built_reply, header_reply}
use Rattle.std.specs.Prelude.{Result, IsOk}
use Rattle.rules.proofs.ReplyLaws.{then_next, need-yes}
use Rattle.five_fields.proofs.CountLaws.{given-ok}
use Rattle.rules.specs.Rule.{held}
use Rattle.ranges.specs.Prefixes.{care_word, value_word}
use Rattle.ranges.proofs.PrefixLaws.{care-fits}
use Rattle.five_fields.specs.FiveFieldRule.{FiveFieldRule}
use Rattle.five_numbers.specs.Fields.{address_bits, protocol_bits, joined, in_fields}
use Rattle.five_fields.specs.FiveFieldRules.{any_protocol}
use Rattle.five_fields.specs.Expansion.{protocol_prefix}
use Rattle.five_fields.specs.Inner.{entry_by}
use Rattle.five_fields.proofs.CheckLaws.{protocol-prefix}

-- ---- the protocol

module _ (p : ℕ) where
  -- both words are numbers of the field
  pub care-within : (c : ℕ) → c ≡ care_word protocol_bits (protocol_prefix p) → c < 2 ^ protocol_bits
  care-within c e = omega (arith, e, care-fits protocol_bits (protocol_prefix p))

  pub value-within : (v : ℕ) → p ≤ any_protocol → v ≡ value_word (protocol_prefix p) → v < 2 ^ protocol_bits
  value-within v h e = omega (arith, e, (protocol-prefix p h).within)

-- ---- an address

pub address-within : (c k : ℕ) → c ≡ 2 ^ address_bits - 2 ^ (address_bits - k) → c < 2 ^ address_bits
address-within c k e = omega (arith, e, pow_pos (address_bits - k))

-- ---- five numbers as a word

-- `header` answers for numbers of their fields
pub header_answered : (n : Numbers) (r : Result Wire Refusal) → built_reply r ≡ header_reply n → in_fields n ≡ true → IsOk r
unfolding header_reply
header_answered n r e w = given-ok _ r (e ∙ then_next _ _ (need-yes _ 6 0 0 w))

-- ---- the entry

pub entry-made : (r : FiveFieldRule) (sc sv dc dv : ℕ) (x y : Word) {a b p q : ℕ}
    → a ≡ 2 ^ address_bits - 2 ^ (address_bits - r.source_length) → b ≡ 2 ^ address_bits - 2 ^ (address_bits - r.destination_length)
    → p ≡ care_word protocol_bits (protocol_prefix r.protocol) → q ≡ value_word (protocol_prefix r.protocol)
    → x ≡ halves (joined a b sc dc p) → y ≡ halves (joined r.source r.destination sv dv q)
    → ◌≡◌ {A = Held} (record { care = x; value = y; decision = r.decision }) (held (entry_by r sc sv dc dv))
unfolding entry_by care_word
entry-made r sc sv dc dv x y e f g h i j =
    ap₂ (λ (u v : Word). record { care = u; value = v; decision = r.decision })
    (i ∙ ap halves (three e f g)) (j ∙ ap (λ (k : ℕ). halves (joined r.source r.destination sv dv k)) h)
  where
    three : {a a' b b' c c' : ℕ} → a ≡ a' → b ≡ b' → c ≡ c' → joined a b sc dc c ≡ joined a' b' sc dc c'
    three s t u = cc
