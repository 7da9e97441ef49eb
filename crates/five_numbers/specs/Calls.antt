-- What the call replies: 6, or the header (request 06).
use Rattle.std.specs.Prelude.{[], ◌∷◌, Result}
use Rattle.words.specs.Halves.{num}
use Rattle.rules.specs.declared.Refusal.{Refusal}
use Rattle.rules.specs.declared.Wire.{Wire}
use Rattle.rules.specs.Replies.{Reply, Gives, need, ◌then◌, reply}
use Rattle.five_numbers.specs.Numbers.{Numbers}
use Rattle.five_numbers.specs.Fields.{header_of, in_fields}

-- One value, the number that the header's word holds.
abbrev pub built_reply : Result Wire Refusal → Reply
built_reply r = reply (λ h. num h.0 ∷ []) r

-- The header of five numbers: 6 where one of them is outside its field.
unfoldable pub header_reply : Numbers → Reply
header_reply n = need (in_fields n) 6 0 0 then Gives (header_of n ∷ [])
