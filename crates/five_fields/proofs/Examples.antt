-- Five-field rules by computation: what some rules become, how many entries the widest pair of ranges takes, and what five numbers get.
use mathlib.Core.Path.{◌≡◌, refl, ap₂, ◌∙◌}
use mathlib.Core.List.{List, [], ◌∷◌, map, flat_map}
use mathlib.Core.Bool.{true, false}
use Prim.Native.Nat.{ℕ, ◌*◌}
use lib.ListN.{length}
use Rattle.rules.specs.Rules.{rule, no_match}
use Rattle.ranges.specs.Prefixes.{Prefix, prefix, care_word}
use Rattle.ranges.specs.Ranges.{covering, range_prefixes}
use Rattle.five_fields.specs.FiveFieldRule.{FiveFieldRule}
use Rattle.five_numbers.specs.Fields.{joined, numbers}
use Rattle.five_fields.specs.FiveFieldRules.{any_protocol, is_prefix, satisfies, decides}
use Rattle.five_fields.specs.Expansion.{entry, source_prefixes, destination_prefixes, expansion}
use Rattle.ranges.proofs.Examples.{all-but-the-ends, all-ports}
use Rattle.five_fields.proofs.CountLaws.{expansion-count}

-- A rule with any addresses and any protocol: its source ports, its destination ports, its decision.
pub ports : (source_low source_high destination_low destination_high decision : ℕ) → FiveFieldRule
ports a b c d e =
    record { source = 0; source_length = 0; destination = 0; destination_length = 0; source_low = a; source_high = b; destination_low = c; destination_high = d; protocol = any_protocol; decision = e }

-- From 10.0.0.0/8 to port 80 of 192.168.1.0/24, protocol 6: decision 1.
pub web : FiveFieldRule
web =
    record { source = 0x0a000000; source_length = 8; destination = 0xc0a80100; destination_length = 24; source_low = 0; source_high = 65535; destination_low = 80; destination_high = 80; protocol = 6; decision = 1 }

-- a rule's entries from the prefixes of its ports
by-ports : (r : FiveFieldRule) {ss ds : List Prefix} → source_prefixes r ≡ ss → destination_prefixes r ≡ ds → expansion r ≡ flat_map (λ (s : Prefix). map (entry r s) ds) ss
unfolding expansion
by-ports r e f = ap₂ (λ (x y : List Prefix). flat_map (λ (s : Prefix). map (entry r s) y) x) e f

-- A rule that takes everything is one entry of stars.
pub everything : expansion (ports 0 65535 0 65535 7) ≡ rule 0 0 7 ∷ []
unfolding ports flat_map entry care_word joined
everything = by-ports (ports 0 65535 0 65535 7) all-ports all-ports

-- Ports 1 to 2 on both sides are four entries: the source port stands still while the destination port goes on.
pub in_order : expansion (ports 1 2 1 2 7)
    ≡ rule 0xffffffff00 0x0001000100 7 ∷ rule 0xffffffff00 0x0001000200 7 ∷ rule 0xffffffff00 0x0002000100 7 ∷ rule 0xffffffff00 0x0002000200 7 ∷ []
unfolding ports expansion flat_map entry covering care_word joined
in_order = refl

port-80 : range_prefixes 16 80 80 ≡ prefix 0 80 ∷ []
unfolding covering
port-80 = refl

-- One entry with all five fields: 8 places of the source, 24 of the destination, all of the port and of the protocol.
pub one_entry : expansion web ≡ rule 0xff000000_ffffff00_0000_ffff_ff 0x0a000000_c0a80100_0000_0050_06 1 ∷ []
unfolding web flat_map entry care_word joined
one_entry = by-ports web all-ports port-80

-- All ports but the first and the last, twice: 900 entries.
pub most : length (expansion (ports 1 65534 1 65534 7)) ≡ 900
unfolding ports
most = expansion-count (ports 1 65534 1 65534 7) ∙ ap₂ (λ (x y : ℕ). x * y) all-but-the-ends all-but-the-ends

-- The first rule that is satisfied decides, and where none is, there is no match.
pub first-decides : decides (web ∷ ports 0 65535 0 1023 2 ∷ []) (numbers 0x0a010203 0xc0a80109 40000 80 6) ≡ 1
unfolding web ports satisfies decides
first-decides = refl

pub second-decides : decides (web ∷ ports 0 65535 0 1023 2 ∷ []) (numbers 0x0a010203 0xc0a80109 40000 80 17) ≡ 2
unfolding web ports satisfies decides
second-decides = refl

pub none-decides : decides (web ∷ ports 0 65535 0 1023 2 ∷ []) (numbers 0x0a010203 0xc0a80109 40000 1024 6) ≡ no_match
unfolding web ports satisfies decides
none-decides = refl

-- An address bit behind the prefix, a length of 33 and a protocol of 257 are 23.
pub bit-behind : is_prefix 0x0a000001 8 ≡ false
unfolding is_prefix
bit-behind = refl

pub longest : is_prefix 0x0a000001 32 ≡ true
unfolding is_prefix
longest = refl

pub too_long : is_prefix 0 33 ≡ false
unfolding is_prefix
too_long = refl
