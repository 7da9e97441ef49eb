-- What the answer of accepting a candidate tells in numbers: a reply, and what stands beside refusal 28.
use Rattle.std.specs.Prelude.{ℕ, List, [], ◌∷◌, Result, Ok, Err}
use Rattle.words.specs.Halves.{halves}
use Rattle.rules.specs.declared.Reason.{Reason}
use Rattle.rules.specs.declared.Refusal.{Refusal}
use Rattle.rules.specs.Replies.{Reply, passed, refusal_reply}
use Rattle.acceptance.specs.declared.Rejection.{Rejection}

-- A check's refusal as a rejection.
abbrev pub refused_as : Refusal → Rejection
refused_as x = Rejection.Refused x

-- The refusal that a rejection is: 28, at no place, where it names a header.
abbrev pub refusal_of : Rejection → Refusal
refusal_of (Rejection.Refused x) = x
refusal_of (Rejection.Differs h s c) = record { reason = Reason.Differs; list = 0; rule = 0 }

-- Accepted is passed.
abbrev pub accepted_reply : Result (Unit {0}) Rejection → Reply
accepted_reply (Ok x) = passed
accepted_reply (Err x) = refusal_reply (refusal_of x)

-- What stands beside the reply, in four values: the header's two halves, the low one first, and what source and candidate answer to it. Nothing
-- stands beside a check's refusal, or where the candidate is accepted.
abbrev pub beside_values : Result (Unit {0}) Rejection → List ℕ
beside_values (Ok x) = []
beside_values (Err (Rejection.Refused x)) = []
beside_values (Err (Rejection.Differs h s c)) = h.0.low ∷ h.0.high ∷ s ∷ c ∷ []

-- The same values of a header that two answers f and g differ on.
abbrev pub header_told : (f g : ℕ → ℕ) → (h : ℕ) → List ℕ
header_told f g h = (halves h).low ∷ (halves h).high ∷ f h ∷ g h ∷ []
