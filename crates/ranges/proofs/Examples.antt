-- Ranges of the papers and at the ends of a field, by computation: the prefixes themselves, or how many they are.
use mathlib.Core.Path.{◌≡◌, refl}
use mathlib.Core.List.{[], ◌∷◌, map}
use lib.ListN.{length}
use Rattle.ranges.specs.Prefixes.{prefix, care_word, value_word}
use Rattle.ranges.specs.Ranges.{covering, range_prefixes}

-- 1 to 5 in three bits: 001, 01*, 10*
pub one-to-five : range_prefixes 3 1 5 ≡ prefix 0 1 ∷ prefix 1 2 ∷ prefix 1 4 ∷ []
unfolding covering
one-to-five = refl

-- their care words and value words
pub one-to-five-cares : map (care_word 3) (range_prefixes 3 1 5) ≡ 7 ∷ 6 ∷ 6 ∷ []
unfolding covering care_word
one-to-five-cares = refl

pub one-to-five-values : map value_word (range_prefixes 3 1 5) ≡ 1 ∷ 2 ∷ 4 ∷ []
unfolding covering
one-to-five-values = refl

-- 1 to 65,534 in sixteen bits takes 30
pub all-but-the-ends : length (range_prefixes 16 1 65534) ≡ 30
unfolding covering
all-but-the-ends = refl

-- a field of one bit: its first number, its last number, both
pub bit-zero : range_prefixes 1 0 0 ≡ prefix 0 0 ∷ []
unfolding covering
bit-zero = refl

pub bit-one : range_prefixes 1 1 1 ≡ prefix 0 1 ∷ []
unfolding covering
bit-one = refl

pub bit-both : range_prefixes 1 0 1 ≡ prefix 1 0 ∷ []
unfolding covering
bit-both = refl

-- all of sixteen bits: stars alone
pub all-ports : range_prefixes 16 0 65535 ≡ prefix 16 0 ∷ []
unfolding covering
all-ports = refl

-- a single number, in the middle and at both ends
pub one-port : range_prefixes 16 443 443 ≡ prefix 0 443 ∷ []
unfolding covering
one-port = refl

pub first-port : range_prefixes 16 0 0 ≡ prefix 0 0 ∷ []
unfolding covering
first-port = refl

pub last-port : range_prefixes 16 65535 65535 ≡ prefix 0 65535 ∷ []
unfolding covering
last-port = refl

-- the ports from 1,024 on, the ordinary client's: 000001**.. up to 1***..
pub high-ports : range_prefixes 16 1024 65535
    ≡ prefix 10 1024 ∷ prefix 11 2048 ∷ prefix 12 4096 ∷ prefix 13 8192 ∷ prefix 14 16384 ∷ prefix 15 32768 ∷ []
unfolding covering
high-ports = refl
