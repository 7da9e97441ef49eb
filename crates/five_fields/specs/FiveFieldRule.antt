-- A five-field rule as numbers: what the definitions and the laws speak of (request 06).
use Rattle.std.specs.Prelude.{ℕ}
use Rattle.five_fields.specs.declared.FiveFieldRule.{FiveFieldRule as Held}

-- An address and how many of its first bits count, twice; a range of ports, twice; a protocol, or 256 for any; the decision.
pub record FiveFieldRule : Type 0 where
  pub source : ℕ
  pub source_length : ℕ
  pub destination : ℕ
  pub destination_length : ℕ
  pub source_low : ℕ
  pub source_high : ℕ
  pub destination_low : ℕ
  pub destination_high : ℕ
  pub protocol : ℕ
  pub decision : ℕ

-- The rule that the code's rule holds.
abbrev pub rule_of : Held → FiveFieldRule
rule_of r =
    record {
      source = r.source;
      source_length = r.source_length;
      destination = r.destination;
      destination_length = r.destination_length;
      source_low = r.source_low;
      source_high = r.source_high;
      destination_low = r.destination_low;
      destination_high = r.destination_high;
      protocol = r.protocol;
      decision = r.decision;
    }
