-- No second result: for each public call, two results that meet its promise are equal.
use mathlib.Core.Path.{◌≡◌, sym, ◌∙◌}
use mathlib.Core.List.{List}
use Prim.Native.Nat.{ℕ}
use Rattle.words.specs.declared.Word.{Word}
use Rattle.words.specs.Halves.{num, limit}
use Rattle.rules.specs.declared.Rule.{Rule as Held}
use Rattle.rules.specs.Rule.{rule_of}
use Rattle.std.specs.Prelude.{Option, Some}
use Rattle.text.specs.Numbers.{number_of}
use Rattle.text.specs.Decimal.{decimal}
use Rattle.text.specs.Patterns.{pattern_text}
use Rattle.text.specs.Put.{Put}

-- `read_number`
pub read-number-once : (bs : List ℕ) (a b : Option Word) → a ≡ number_of limit bs → b ≡ number_of limit bs → a ≡ b
read-number-once bs a b p q = p ∙ sym q

-- a text that is put: the count, and what the slice holds afterwards
put-once : {text : Option (List ℕ)} {old xs ys : List ℕ} {m n : Option ℕ} → Put text old m xs → Put text old n ys → (m ≡ n) × (xs ≡ ys)
put-once p q = (p.size ∙ sym q.size, p.text ∙ sym q.text)

-- `write_number`
pub write-number-once : (x : Word) (old : List ℕ) (m n : Option ℕ) (xs ys : List ℕ) → Put (Some (decimal (num x))) old m xs → Put (Some (decimal (num x))) old n ys
    → (m ≡ n) × (xs ≡ ys)
write-number-once x old m n xs ys p q = put-once p q

-- `write_pattern`
pub write-pattern-once : (w : ℕ) (r : Held) (old : List ℕ) (m n : Option ℕ) (xs ys : List ℕ) → Put (pattern_text w (rule_of r)) old m xs
    → Put (pattern_text w (rule_of r)) old n ys → (m ≡ n) × (xs ≡ ys)
write-pattern-once w r old m n xs ys p q = put-once p q
