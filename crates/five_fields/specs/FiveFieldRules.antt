-- Five-field rules, over numbers and ranges: which five numbers satisfy a rule, and what a list of rules decides (request 06).
use Rattle.std.specs.Prelude.{List, [], ◌∷◌, Bool, ◌&&◌, ◌||◌, ℕ, ◌+◌, ◌-◌, ◌%◌, ◌^◌, eqb, leb, ltb}
use Rattle.rules.specs.Rules.{choose, no_match}
use Rattle.ranges.specs.Prefixes.{in_range}
use Rattle.ranges.specs.Calls.{is_range}
use Rattle.five_fields.specs.FiveFieldRule.{FiveFieldRule}
use Rattle.five_numbers.specs.Numbers.{Numbers}
use Rattle.five_numbers.specs.Fields.{address_bits, port_bits, protocol_bits}

-- The number that stands for any protocol: the first one that is none.
abbrev pub any_protocol : ℕ
any_protocol = 2 ^ protocol_bits

-- ---- what a rule keeps to

-- An address and the length of its prefix: at most 32 bits count, and the address has no bit behind them. (An address is a number of 32
-- bits; no other can be lent.)
unfoldable pub is_prefix : (address bits : ℕ) → Bool
is_prefix a k = leb k address_bits && (ltb a (2 ^ address_bits) && eqb (a % 2 ^ (address_bits - k)) 0)

-- Both addresses and the protocol.
unfoldable pub fields_fit : FiveFieldRule → Bool
fields_fit r =
    is_prefix r.source r.source_length
    && (is_prefix r.destination r.destination_length
    && leb r.protocol any_protocol)

-- Both ranges of ports.
unfoldable pub ports_fit : FiveFieldRule → Bool
ports_fit r = is_range port_bits r.source_low r.source_high && is_range port_bits r.destination_low r.destination_high

-- ---- who satisfies it

-- An address lies in the range of a prefix: the numbers that share its first bits, from the one with zeros behind them to the one with ones.
abbrev pub in_prefix : (address bits n : ℕ) → Bool
in_prefix a k n = in_range a (a + (2 ^ (address_bits - k) - 1)) n

-- A protocol is the rule's, or the rule takes any.
abbrev pub of_protocol : (protocol n : ℕ) → Bool
of_protocol p n = eqb p any_protocol || eqb n p

-- Five numbers satisfy a rule: each address lies in its prefix, each port in its range, and the protocol is the rule's.
unfoldable pub satisfies : FiveFieldRule → Numbers → Bool
satisfies r n =
    in_prefix r.source r.source_length n.source
    && (in_prefix r.destination r.destination_length n.destination
    && (in_range r.source_low r.source_high n.source_port
    && (in_range r.destination_low r.destination_high n.destination_port
    && of_protocol r.protocol n.protocol)))

-- What a list of rules decides: the decision of the first rule that the numbers satisfy, else no match.
unfoldable pub decides : List FiveFieldRule → Numbers → ℕ
decides [] n = no_match
decides (r ∷ rs) n = choose (satisfies r n) r.decision (decides rs n)
