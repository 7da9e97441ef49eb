-- A header of five numbers by computation, and back.
use mathlib.Core.Path.{◌≡◌, refl}
use Rattle.five_numbers.specs.Fields.{joined, numbers, header_of, numbers_of}

-- 10.1.2.3, port 40,000, to port 80 of 192.168.1.9, protocol 6: its header, and back from the header to the five.
pub header_made : header_of (numbers 0x0a010203 0xc0a80109 40000 80 6) ≡ 0x0a010203_c0a80109_9c40_0050_06
unfolding joined
header_made = refl

pub header_read : numbers_of 0x0a010203_c0a80109_9c40_0050_06 ≡ numbers 0x0a010203 0xc0a80109 40000 80 6
unfolding numbers_of
header_read = refl
