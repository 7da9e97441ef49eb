-- What the functions inside the library promise: which entries stand in the result slices, and the words of port prefixes.
use Rattle.std.specs.Prelude.{◌≡◌, List, [], ◌∷◌, ◌++◌, map, ℕ, ◌≤◌, length, take}
use Rattle.std.proofs.lemmas.List.Edits.{sets}
use Rattle.rules.specs.Rule.{Rule}
use Rattle.rules.specs.Rules.{rule}
use Rattle.rules.specs.Slices.{rules_of}
use Rattle.ranges.specs.Prefixes.{care_word, value_word}
use Rattle.ranges.specs.Ranges.{range_prefixes}
use Rattle.five_fields.specs.FiveFieldRule.{FiveFieldRule}
use Rattle.five_numbers.specs.Fields.{address_bits, port_bits, protocol_bits, joined}
use Rattle.five_fields.specs.FiveFieldRules.{any_protocol}
use Rattle.five_fields.specs.Expansion.{address_prefix, protocol_prefix}

-- What the words of an entry need of a rule: its lengths and its protocol are in their bounds.
pub record Bounded (r : FiveFieldRule) : Type 0 where
  pub source : r.source_length ≤ address_bits
  pub destination : r.destination_length ≤ address_bits
  pub protocol : r.protocol ≤ any_protocol

-- An entry by the care and value words of its two port prefixes.
unfoldable pub entry_by : FiveFieldRule → (source_care source_value destination_care destination_value : ℕ) → Rule
entry_by r sc sv dc dv =
    rule
    (joined
    (care_word address_bits (address_prefix r.source r.source_length))
    (care_word address_bits (address_prefix r.destination r.destination_length))
    sc
    dc
    (care_word protocol_bits (protocol_prefix r.protocol)))
    (joined r.source r.destination sv dv (protocol_prefix r.protocol).first)
    r.decision

-- The entries with one source prefix, by the words of the destination prefixes.
unfoldable pub entries_inside : FiveFieldRule → (source_care source_value : ℕ) → (cares values : List ℕ) → List Rule
entries_inside r sc sv [] vs = []
entries_inside r sc sv (c ∷ cs) [] = []
entries_inside r sc sv (c ∷ cs) (v ∷ vs) = entry_by r sc sv c v ∷ entries_inside r sc sv cs vs

-- The entries of a rule, by the words of its port prefixes.
unfoldable pub entries_by : FiveFieldRule → (source_cares source_values cares values : List ℕ) → List Rule
entries_by r [] svs cs vs = []
entries_by r (sc ∷ scs) [] cs vs = []
entries_by r (sc ∷ scs) (sv ∷ svs) cs vs = entries_inside r sc sv cs vs ++ entries_by r scs svs cs vs

-- The three result slices after entries were put from a place on: as long as they were, and no other place changed.
pub record Put (at : ℕ) (es : List Rule) (cs vs ds cs' vs' ds' : List ℕ) : Type 0 where
  pub cares : length cs' ≡ length cs
  pub values : length vs' ≡ length vs
  pub decisions : length ds' ≡ length ds
  pub rules : rules_of cs' vs' ds' ≡ sets (rules_of cs vs ds) at es

-- The first places of two slices hold the words of the prefixes of a range of ports.
pub record PortWords (low high n : ℕ) (cs vs : List ℕ) : Type 0 where
  pub count : n ≡ length (range_prefixes port_bits low high)
  pub cares : take n cs ≡ map (care_word port_bits) (range_prefixes port_bits low high)
  pub values : take n vs ≡ map value_word (range_prefixes port_bits low high)
