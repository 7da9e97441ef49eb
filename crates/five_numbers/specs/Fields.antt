-- The five fields of a header, from left to right: their sizes, and five numbers as one (request 06).
use Rattle.std.specs.Prelude.{Bool, ◌&&◌, ℕ, ◌+◌, ◌*◌, ◌/◌, ◌%◌, ◌^◌, ltb}
use Rattle.five_numbers.specs.Numbers.{Numbers}

-- The places of a field. These are the definitions that name them.
abbrev pub address_bits : ℕ
address_bits = 32

abbrev pub port_bits : ℕ
port_bits = 16

abbrev pub protocol_bits : ℕ
protocol_bits = 8

-- The places of all five: 104.
abbrev pub header_bits : ℕ
header_bits = address_bits + address_bits + port_bits + port_bits + protocol_bits

-- A number, and right of it a field of so many places with another number.
abbrev pub beside : (left bits right : ℕ) → ℕ
beside l k r = r + l * 2 ^ k

-- Five numbers as one, from left to right: source address, destination address, source port, destination port, protocol.
unfoldable pub joined : (source destination source_port destination_port protocol : ℕ) → ℕ
joined s d sp dp p = beside (beside (beside (beside s address_bits d) port_bits sp) port_bits dp) protocol_bits p

-- Five numbers.
abbrev pub numbers : (source destination source_port destination_port protocol : ℕ) → Numbers
numbers s d sp dp p = record { source = s; destination = d; source_port = sp; destination_port = dp; protocol = p }

-- The header of five numbers.
abbrev pub header_of : Numbers → ℕ
header_of n = joined n.source n.destination n.source_port n.destination_port n.protocol

-- Each of the five numbers is one of its field.
unfoldable pub in_fields : Numbers → Bool
in_fields n =
    ltb n.source (2 ^ address_bits)
    && (ltb n.destination (2 ^ address_bits)
    && (ltb n.source_port (2 ^ port_bits)
    && (ltb n.destination_port (2 ^ port_bits)
    && ltb n.protocol (2 ^ protocol_bits))))

-- The other way round: what stands left of the last places of a number, and what stands in these places.
abbrev pub left_of : (n bits : ℕ) → ℕ
left_of n k = n / 2 ^ k

abbrev pub last_of : (n bits : ℕ) → ℕ
last_of n k = n % 2 ^ k

-- The parts of a header that end with its destination port, its source port, its destination address.
abbrev pub to_destination_port : (header : ℕ) → ℕ
to_destination_port h = left_of h protocol_bits

abbrev pub to_source_port : (header : ℕ) → ℕ
to_source_port h = left_of (to_destination_port h) port_bits

abbrev pub to_destination : (header : ℕ) → ℕ
to_destination h = left_of (to_source_port h) port_bits

-- The five numbers of a header. That each header of 104 places is that of these five numbers and of no others is the theorem
-- `header-numbers`.
unfoldable pub numbers_of : (header : ℕ) → Numbers
numbers_of h =
    numbers
    (left_of (to_destination h) address_bits)
    (last_of (to_destination h) address_bits)
    (last_of (to_source_port h) port_bits)
    (last_of (to_destination_port h) port_bits)
    (last_of h protocol_bits)
