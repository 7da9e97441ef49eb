-- The five numbers of a packet's header: what the definitions and the laws speak of (request 06).
use Rattle.std.specs.Prelude.{ℕ}
use Rattle.five_numbers.specs.declared.Numbers.{Numbers as Held}

pub record Numbers : Type 0 where
  pub source : ℕ
  pub destination : ℕ
  pub source_port : ℕ
  pub destination_port : ℕ
  pub protocol : ℕ

-- The numbers that the code's numbers are.
abbrev pub five_of : Held → Numbers
five_of n =
    record {
      source = n.source;
      destination = n.destination;
      source_port = n.source_port;
      destination_port = n.destination_port;
      protocol = n.protocol;
    }
