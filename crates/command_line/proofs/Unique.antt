-- No second result: for the public call, two results that meet its promise are equal.
use mathlib.Core.Path.{◌≡◌, sym, ◌∙◌}
use mathlib.Core.List.{List}
use Prim.Native.Nat.{ℕ}
use Rattle.command_line.specs.declared.Wanted.{Wanted}
use Rattle.command_line.specs.Words.{wanted_of}

-- `asked`
pub asked-once : (word last_but_two : List ℕ) (words : ℕ) (a b : Wanted) → a ≡ wanted_of word last_but_two words → b ≡ wanted_of word last_but_two words → a ≡ b
asked-once word last_but_two words a b p q = p ∙ sym q
