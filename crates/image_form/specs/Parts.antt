-- A contents entry and a rule at any place of any bytes: what the calls that read them give, also where the bytes are too few.
use Rattle.std.specs.Prelude.{ℕ, ◌+◌, ◌<◌, ◌≡◌, Bool, true, false, List, leb, length, drop}
use Rattle.rules.specs.Rule.{Rule}
use Rattle.rules.specs.Slices.{blank}
use Rattle.image_form.specs.declared.Entry.{Entry}
use Rattle.image_form.specs.Formats.{rule_size}
use Rattle.image_form.specs.Images.{entry_with, entry_in, rule_in}

-- One entry, or one rule, of two, by a test.
abbrev pub pick_entry : Bool → Entry → Entry → Entry
pick_entry true a b = a
pick_entry false a b = b

abbrev pub pick_rule : Bool → Rule → Rule → Rule
pick_rule true a b = a
pick_rule false a b = b

-- The entry in the 8 bytes of s from byte p on; the entry of zeros where s has not so many.
unfoldable pub entry_from : (p : ℕ) → List ℕ → Entry
entry_from p s = pick_entry (leb (p + 8) (length s)) (entry_in (drop p s)) (entry_with 0 0 0)

-- The rule of format f in the bytes of s from byte p on; the rule of zeros where s has not so many.
unfoldable pub rule_from : (f p : ℕ) → List ℕ → Rule
rule_from f p s = pick_rule (leb (p + rule_size f) (length s)) (rule_in f (drop p s)) blank

-- What reading an entry gives: it, and that its numbers are of 4, 2 and 2 bytes.
pub record EntryRead (s : List ℕ) (p : ℕ) (e : Entry) : Type 0 where
  pub is : e ≡ entry_from p s
  pub offset : e.offset < 4294967296
  pub count : e.count < 65536
  pub id : e.id < 65536
