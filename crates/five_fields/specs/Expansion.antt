-- Five-field rules as ternary rules: each field as a prefix, and of each rule every pair of port prefixes (request 06).
use mathlib.Core.List.{List, map, flat_map}
use Rattle.std.specs.Prelude.{Bool, true, false, ℕ, ◌-◌, eqb}
use Rattle.rules.specs.Rule.{Rule}
use Rattle.rules.specs.Rules.{rule}
use Rattle.ranges.specs.Prefixes.{Prefix, prefix, care_word, value_word}
use Rattle.ranges.specs.Ranges.{range_prefixes}
use Rattle.five_fields.specs.FiveFieldRule.{FiveFieldRule}
use Rattle.five_numbers.specs.Fields.{address_bits, port_bits, protocol_bits, joined}
use Rattle.five_fields.specs.FiveFieldRules.{any_protocol}

-- An address of which so many first bits count has stars behind them.
abbrev pub address_prefix : (address bits : ℕ) → Prefix
address_prefix a k = prefix (address_bits - k) a

-- Any protocol is all stars, and a protocol has none.
abbrev pub protocol_by : (any : Bool) → (protocol : ℕ) → Prefix
protocol_by true p = prefix protocol_bits 0
protocol_by false p = prefix 0 p

abbrev pub protocol_prefix : (protocol : ℕ) → Prefix
protocol_prefix p = protocol_by (eqb p any_protocol) p

-- One entry: the words of five prefixes, from left to right, and the rule's decision.
unfoldable pub entry : FiveFieldRule → (source destination : Prefix) → Rule
entry r s d =
    rule
    (joined
    (care_word address_bits (address_prefix r.source r.source_length))
    (care_word address_bits (address_prefix r.destination r.destination_length))
    (care_word port_bits s)
    (care_word port_bits d)
    (care_word protocol_bits (protocol_prefix r.protocol)))
    (joined
    (value_word (address_prefix r.source r.source_length))
    (value_word (address_prefix r.destination r.destination_length))
    (value_word s)
    (value_word d)
    (value_word (protocol_prefix r.protocol)))
    r.decision

-- The prefixes of a rule's two ranges of ports: rising, and as few as there can be (request 01).
abbrev pub source_prefixes : FiveFieldRule → List Prefix
source_prefixes r = range_prefixes port_bits r.source_low r.source_high

abbrev pub destination_prefixes : FiveFieldRule → List Prefix
destination_prefixes r = range_prefixes port_bits r.destination_low r.destination_high

-- The entries of one rule: for each source prefix in turn, one entry with each destination prefix.
unfoldable pub expansion : FiveFieldRule → List Rule
unfolding flat_map
expansion r = flat_map (λ (s : Prefix). map (entry r s) (destination_prefixes r)) (source_prefixes r)

-- The ternary list: the entries of each rule, in the order of the rules.
unfoldable pub expanded : List FiveFieldRule → List Rule
unfolding flat_map
expanded rs = flat_map expansion rs
