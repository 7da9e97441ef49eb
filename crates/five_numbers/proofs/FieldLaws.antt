-- Laws of five numbers as one: what is done to such numbers is done field by field.
use mathlib.Core.Path.{◌≡◌, ap, ◌∙◌}
use mathlib.Core.Bool.{Bool, true, ◌&&◌}
use Prim.Native.Nat.{ℕ, ◌+◌, ◌*◌, ◌/◌, ◌%◌, ◌^◌, ◌<◌}
use native.Mathlib.Omega.{arith}
use native.Mathlib.Nat.{mod-lt}
use lib.Arith.{digits_lt}
use lib.Bits.{bit_and, and_lt}
use lib.Dec.{eqb, ltb}
use lib.Pow.{pow-add, pow_pos, split, shr_lt}
use borrow.Author.Tests.{ltb-true, lt-ltb}
use Rattle.words.proofs.Tests.{and-true, true-and}
use Rattle.words.specs.Halves.{word, halves}
use Rattle.words.proofs.WordLaws.{made}
use Rattle.words.proofs.SeamLaws.{seam-low, seam-high, and-seam, eqb-seam}
use Rattle.five_numbers.specs.Numbers.{Numbers}
use Rattle.five_numbers.specs.Fields.{address_bits, port_bits, protocol_bits, header_bits, beside, joined, numbers, header_of, in_fields, numbers_of, to_destination_port, to_source_port, to_destination}

-- ---- a number and a field right of it, over any sizes

pub beside-lt : (j k l r : ℕ) → l < 2 ^ j → r < 2 ^ k → beside l k r < 2 ^ (j + k)
beside-lt j k l r p q = let s : l * 2 ^ k + r < 2 ^ j * 2 ^ k = digits_lt p q in omega (arith, s, pow-add 2 j k)

beside_back : (n k : ℕ) → beside (n / 2 ^ k) k (n % 2 ^ k) ≡ n
beside_back n k = omega (arith, split n k)

-- ---- five numbers

-- Each of the five is a number of its field.
pub record Within (s d sp dp p : ℕ) : Type 0 where
  pub source : s < 2 ^ address_bits
  pub destination : d < 2 ^ address_bits
  pub source_port : sp < 2 ^ port_bits
  pub destination_port : dp < 2 ^ port_bits
  pub protocol : p < 2 ^ protocol_bits

abbrev pub Inside : Numbers → Type 0
Inside n = Within n.source n.destination n.source_port n.destination_port n.protocol

pub in-fields : (n : Numbers) → in_fields n ≡ true → Inside n
unfolding in_fields
in-fields n e =
    let a = and-true (ltb n.source (2 ^ address_bits)) _ e in
    let b = and-true (ltb n.destination (2 ^ address_bits)) _ a.1 in
    let c = and-true (ltb n.source_port (2 ^ port_bits)) _ b.1 in
    let d = and-true (ltb n.destination_port (2 ^ port_bits)) _ c.1 in
    record {
      source = ltb-true _ _ a.0;
      destination = ltb-true _ _ b.0;
      source_port = ltb-true _ _ c.0;
      destination_port = ltb-true _ _ d.0;
      protocol = ltb-true _ _ d.1;
    }

pub fields_in : (n : Numbers) → Inside n → in_fields n ≡ true
unfolding in_fields
fields_in n w =
    true-and (lt-ltb _ _ w.source) (true-and (lt-ltb _ _ w.destination) (true-and (lt-ltb _ _ w.source_port) (true-and (lt-ltb _ _ w.destination_port) (lt-ltb _ _ w.protocol))))

pub joined-lt : (s d sp dp p : ℕ) → Within s d sp dp p → joined s d sp dp p < 2 ^ header_bits
unfolding joined
joined-lt s d sp dp p w =
    beside-lt (address_bits + address_bits + port_bits + port_bits) protocol_bits _ p
    (beside-lt (address_bits + address_bits + port_bits) port_bits _ dp
    (beside-lt (address_bits + address_bits) port_bits _ sp (beside-lt address_bits address_bits s d w.source w.destination) w.source_port)
    w.destination_port)
    w.protocol

-- the code's two halves: the first 8 bits of the destination stand in the high one
pub joined_made : (s d sp dp p : ℕ) → Within s d sp dp p
    → word (d % 16777216 * 1099511627776 + sp * 16777216 + dp * 256 + p) (s * 256 + d / 16777216) ≡ halves (joined s d sp dp p)
unfolding joined
joined_made s d sp dp p w = made _ _ _ (omega (arith, w.source_port, w.destination_port, w.protocol)) (omega arith)

module _ (s d sp dp p s' d' sp' dp' p' : ℕ) (v : Within s d sp dp p) (w : Within s' d' sp' dp' p') where
  pub within-and : Within (bit_and s s') (bit_and d d') (bit_and sp sp') (bit_and dp dp') (bit_and p p')
  within-and =
      record {
        source = and_lt address_bits s s' v.source w.source;
        destination = and_lt address_bits d d' v.destination w.destination;
        source_port = and_lt port_bits sp sp' v.source_port w.source_port;
        destination_port = and_lt port_bits dp dp' v.destination_port w.destination_port;
        protocol = and_lt protocol_bits p p' v.protocol w.protocol;
      }

  pub joined-and : bit_and (joined s d sp dp p) (joined s' d' sp' dp' p') ≡ joined (bit_and s s') (bit_and d d') (bit_and sp sp') (bit_and dp dp') (bit_and p p')
  unfolding joined
  joined-and =
      and-seam protocol_bits p _ p' _ v.protocol w.protocol
      ∙ ap (λ (x : ℕ). beside x protocol_bits (bit_and p p'))
      (and-seam port_bits dp _ dp' _ v.destination_port w.destination_port
      ∙ ap (λ (x : ℕ). beside x port_bits (bit_and dp dp'))
      (and-seam port_bits sp _ sp' _ v.source_port w.source_port
      ∙ ap (λ (x : ℕ). beside x port_bits (bit_and sp sp')) (and-seam address_bits d s d' s' v.destination w.destination)))

  pub joined-eqb : eqb (joined s d sp dp p) (joined s' d' sp' dp' p') ≡ (eqb p p' && (eqb dp dp' && (eqb sp sp' && (eqb d d' && eqb s s'))))
  unfolding joined
  joined-eqb =
      eqb-seam protocol_bits p _ p' _ v.protocol w.protocol
      ∙ ap (λ (t : Bool). eqb p p' && t)
      (eqb-seam port_bits dp _ dp' _ v.destination_port w.destination_port
      ∙ ap (λ (t : Bool). eqb dp dp' && t)
      (eqb-seam port_bits sp _ sp' _ v.source_port w.source_port
      ∙ ap (λ (t : Bool). eqb sp sp' && t) (eqb-seam address_bits d s d' s' v.destination w.destination)))

-- ---- a header and its five numbers

-- any number is that of its five numbers
pub header-back : (h : ℕ) → header_of (numbers_of h) ≡ h
unfolding joined numbers_of
header-back h =
    ap (λ (x : ℕ). beside x protocol_bits (h % 2 ^ protocol_bits))
    (ap (λ (x : ℕ). beside x port_bits (to_destination_port h % 2 ^ port_bits))
    (ap (λ (x : ℕ). beside x port_bits (to_source_port h % 2 ^ port_bits)) (beside_back (to_destination h) address_bits) ∙ beside_back (to_source_port h) port_bits)
    ∙ beside_back (to_destination_port h) port_bits)
    ∙ beside_back h protocol_bits

-- and where it has 104 places, each of the five is one of its field
pub header-within : (h : ℕ) → h < 2 ^ header_bits → Inside (numbers_of h)
unfolding numbers_of
header-within h l =
    record {
      source = shr_lt address_bits address_bits (shr_lt (address_bits + address_bits) port_bits (shr_lt (address_bits + address_bits + port_bits) port_bits (shr_lt (address_bits + address_bits + port_bits + port_bits) protocol_bits l)));
      destination = mod-lt _ (pow_pos address_bits);
      source_port = mod-lt _ (pow_pos port_bits);
      destination_port = mod-lt _ (pow_pos port_bits);
      protocol = mod-lt _ (pow_pos protocol_bits);
    }

-- five numbers of their fields are those of their header
pub numbers-back : (n : Numbers) → Inside n → numbers_of (header_of n) ≡ n
unfolding joined numbers_of
numbers-back n w =
    five
    (ap (λ (x : ℕ). x / 2 ^ address_bits) left3 ∙ seam-high address_bits n.destination n.source w.destination)
    (ap (λ (x : ℕ). x % 2 ^ address_bits) left3 ∙ seam-low address_bits n.destination n.source w.destination)
    (ap (λ (x : ℕ). x % 2 ^ port_bits) left2 ∙ seam-low port_bits n.source_port _ w.source_port)
    (ap (λ (x : ℕ). x % 2 ^ port_bits) left1 ∙ seam-low port_bits n.destination_port _ w.destination_port)
    (seam-low protocol_bits n.protocol _ w.protocol)
  where
    a : ℕ
    a = beside n.source address_bits n.destination

    b : ℕ
    b = beside a port_bits n.source_port

    c : ℕ
    c = beside b port_bits n.destination_port

    left1 : to_destination_port (beside c protocol_bits n.protocol) ≡ c
    left1 = seam-high protocol_bits n.protocol c w.protocol

    left2 : to_source_port (beside c protocol_bits n.protocol) ≡ b
    left2 = ap (λ (x : ℕ). x / 2 ^ port_bits) left1 ∙ seam-high port_bits n.destination_port b w.destination_port

    left3 : to_destination (beside c protocol_bits n.protocol) ≡ a
    left3 = ap (λ (x : ℕ). x / 2 ^ port_bits) left2 ∙ seam-high port_bits n.source_port a w.source_port

    five : {s s' d d' sp sp' dp dp' p p' : ℕ} → s ≡ s' → d ≡ d' → sp ≡ sp' → dp ≡ dp' → p ≡ p' → numbers s d sp dp p ≡ numbers s' d' sp' dp' p'
    five e f g i j = cc
