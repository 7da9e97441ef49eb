-- Text put at the start of a lent slice: what each call that writes text promises.
use Rattle.std.specs.Prelude.{ℕ, List, ◌++◌, ◌≡◌, length, drop, Option, Some, None}
use Rattle.rules.specs.Replies.{unless_refused}
use Rattle.rules.specs.Checks.{room_check}

-- What is put of a text, where there is one and room for `room` bytes: the whole text, or nothing where refusal 7 would be given for it.
unfoldable pub fitting : (room : ℕ) → Option (List ℕ) → Option (List ℕ)
fitting room (Some bytes) = unless_refused (room_check (length bytes) room) (Some bytes) None
fitting room None = None

-- How many bytes a text takes that is put.
abbrev pub count_of : Option (List ℕ) → Option ℕ
count_of (Some bytes) = Some (length bytes)
count_of None = None

-- What a slice that held `old` holds then: it keeps its later bytes.
abbrev pub over_start : Option (List ℕ) → List ℕ → List ℕ
over_start (Some bytes) old = bytes ++ drop (length bytes) old
over_start None old = old

-- How many bytes of a slice that held `old` a text takes, and what the slice holds then; none, and as it was, where no text is put.
pub record Put (bytes : Option (List ℕ)) (old : List ℕ) (count : Option ℕ) (new : List ℕ) : Type 0 where
  pub size : count ≡ count_of (fitting (length old) bytes)
  pub text : new ≡ over_start (fitting (length old) bytes) old
