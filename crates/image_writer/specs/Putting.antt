-- What the writer's parts promise inside the library: bytes that go over those of a slice.
use Rattle.std.specs.Prelude.{ℕ, ◌+◌, ◌*◌, List, [], ◌∷◌, ◌++◌, length, take, drop}
use Rattle.image_form.specs.Formats.{rule_size}
use Rattle.image_form.specs.declared.Entry.{Entry}
use Rattle.image_form.specs.Images.{entry_with}

-- s, with l in place of what stands from byte p on.
abbrev pub over : List ℕ → (p : ℕ) → List ℕ → List ℕ
over s p l = take p s ++ (l ++ drop (p + length l) s)

-- The entries of lists with these ids and counts, of which the first body starts at byte `next`.
unfoldable pub entries_given : (f next : ℕ) → (ids counts : List ℕ) → List Entry
entries_given f next [] ns = []
entries_given f next (i ∷ is) [] = []
entries_given f next (i ∷ is) (n ∷ ns) = entry_with next n i ∷ entries_given f (next + rule_size f * n) is ns
