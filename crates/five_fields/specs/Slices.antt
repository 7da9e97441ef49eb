-- Ten slices as a list of five-field rules: the one place where slices become such rules (request 06).
use Rattle.std.specs.Prelude.{List, [], ◌∷◌, Bool, true, ◌&&◌, ℕ, zero, suc, eqb, length, get_or}
use Rattle.five_fields.specs.FiveFieldRule.{FiveFieldRule}
use Rattle.five_fields.specs.declared.FiveFieldRules.{FiveFieldRules}

-- The ten slices.
pub record Slices : Type 0 where
  pub sources : List ℕ
  pub source_lengths : List ℕ
  pub destinations : List ℕ
  pub destination_lengths : List ℕ
  pub source_lows : List ℕ
  pub source_highs : List ℕ
  pub destination_lows : List ℕ
  pub destination_highs : List ℕ
  pub protocols : List ℕ
  pub decisions : List ℕ

abbrev pub slices : (sources source_lengths destinations destination_lengths source_lows source_highs destination_lows destination_highs protocols decisions : List ℕ) → Slices
slices s sl d dl spl sph dpl dph p ds =
    record {
      sources = s;
      source_lengths = sl;
      destinations = d;
      destination_lengths = dl;
      source_lows = spl;
      source_highs = sph;
      destination_lows = dpl;
      destination_highs = dph;
      protocols = p;
      decisions = ds;
    }

-- The ten slices that are lent.
abbrev pub lent : FiveFieldRules → Slices
lent r =
    slices r.source.now r.source_length.now r.destination.now r.destination_length.now r.source_low.now r.source_high.now r.destination_low.now
    r.destination_high.now r.protocol.now r.decision.now

-- The rules are counted by the decisions.
abbrev pub rows : Slices → ℕ
rows s = length s.decisions

-- Each of these numbers is n.
abbrev pub each : (n : ℕ) → List ℕ → Bool
each n [] = true
each n (m ∷ ms) = eqb m n && each n ms

-- All ten are equally long.
unfoldable pub alike : Slices → Bool
alike s =
    each (rows s)
    (length s.sources ∷ length s.source_lengths ∷ length s.destinations ∷ length s.destination_lengths ∷ length s.source_lows
    ∷ length s.source_highs ∷ length s.destination_lows ∷ length s.destination_highs ∷ length s.protocols ∷ [])

-- The rule at a position, counted from 0; of a slice that has no such position the number is 0.
unfoldable pub rule_at : Slices → (i : ℕ) → FiveFieldRule
rule_at s i =
    record {
      source = get_or s.sources i 0;
      source_length = get_or s.source_lengths i 0;
      destination = get_or s.destinations i 0;
      destination_length = get_or s.destination_lengths i 0;
      source_low = get_or s.source_lows i 0;
      source_high = get_or s.source_highs i 0;
      destination_low = get_or s.destination_lows i 0;
      destination_high = get_or s.destination_highs i 0;
      protocol = get_or s.protocols i 0;
      decision = get_or s.decisions i 0;
    }

-- So many rules from a position on.
unfoldable pub rules_from : Slices → (i count : ℕ) → List FiveFieldRule
rules_from s i zero = []
rules_from s i (suc n) = rule_at s i ∷ rules_from s (suc i) n

-- All of them.
abbrev pub rules_in : Slices → List FiveFieldRule
rules_in s = rules_from s 0 (rows s)
