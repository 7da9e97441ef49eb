-- Which command the words of a command line ask for.
use Rattle.std.specs.Prelude.{ℕ, ◌-◌, List, [], ◌∷◌, Bool, true, false, ◌&&◌, eqb, leb, Some, None}
use Rattle.command_line.specs.declared.Command.{Command}
use Rattle.command_line.specs.declared.Wanted.{Wanted}

-- The names, byte by byte: check, show, lookup, runs, weave, prune, compare, prefixes, and defaults.
abbrev pub check_name : List ℕ
check_name = 99 ∷ 104 ∷ 101 ∷ 99 ∷ 107 ∷ []

abbrev pub show_name : List ℕ
show_name = 115 ∷ 104 ∷ 111 ∷ 119 ∷ []

abbrev pub lookup_name : List ℕ
lookup_name = 108 ∷ 111 ∷ 111 ∷ 107 ∷ 117 ∷ 112 ∷ []

abbrev pub runs_name : List ℕ
runs_name = 114 ∷ 117 ∷ 110 ∷ 115 ∷ []

abbrev pub weave_name : List ℕ
weave_name = 119 ∷ 101 ∷ 97 ∷ 118 ∷ 101 ∷ []

abbrev pub prune_name : List ℕ
prune_name = 112 ∷ 114 ∷ 117 ∷ 110 ∷ 101 ∷ []

abbrev pub compare_name : List ℕ
compare_name = 99 ∷ 111 ∷ 109 ∷ 112 ∷ 97 ∷ 114 ∷ 101 ∷ []

abbrev pub prefixes_name : List ℕ
prefixes_name = 112 ∷ 114 ∷ 101 ∷ 102 ∷ 105 ∷ 120 ∷ 101 ∷ 115 ∷ []

abbrev pub defaults_name : List ℕ
defaults_name = 100 ∷ 101 ∷ 102 ∷ 97 ∷ 117 ∷ 108 ∷ 116 ∷ 115 ∷ []

-- Whether two words have the same bytes.
unfoldable pub same_bytes : List ℕ → List ℕ → Bool
same_bytes [] [] = true
same_bytes [] (b ∷ bs) = false
same_bytes (a ∷ rest) [] = false
same_bytes (a ∷ rest) (b ∷ bs) = eqb a b && same_bytes rest bs

abbrev pub command_if : Bool → Command → Command → Command
command_if true a b = a
command_if false a b = b

-- Whether the first word is this name and there are so many words in all, the program's own name among them.
unfoldable pub asks : (word : List ℕ) (words : ℕ) (name : List ℕ) (wanted : ℕ) → Bool
asks word words name wanted = eqb words wanted && same_bytes word name

-- The command on image files that a command line without defaults asks for: the usage where it is no other.
unfoldable pub file_command_of : (word : List ℕ) (words : ℕ) → Command
file_command_of word words =
    command_if (asks word words check_name 3) Command.Check
    (command_if (asks word words show_name 3) Command.Show
    (command_if (asks word words lookup_name 5) Command.Lookup
    (command_if (asks word words runs_name 4) Command.Runs
    (command_if (asks word words weave_name 4) Command.Weave
    (command_if (asks word words prune_name 4) Command.Prune
    (command_if (asks word words compare_name 4) Command.Compare
    (command_if (asks word words compare_name 5) Command.CompareId
    (command_if (asks word words compare_name 6) Command.CompareFrom Command.Usage))))))))

-- The same with the command that takes no file.
unfoldable pub command_of : (word : List ℕ) (words : ℕ) → Command
command_of word words = command_if (asks word words prefixes_name 5) Command.Prefixes (file_command_of word words)

-- Whether a comparison ends in its defaults: the last word but two is their name, and at least the two files' names stand before it.
unfoldable pub names_defaults : (word last_but_two : List ℕ) (words : ℕ) → Bool
names_defaults word last_but_two words = leb 7 words && (same_bytes word compare_name && same_bytes last_but_two defaults_name)

abbrev pub wanted_if : Bool → Wanted → Wanted → Wanted
wanted_if true a b = a
wanted_if false a b = b

-- What a command line asks for: where it ends in the defaults of a comparison, the command of the words before them, and the last two words
-- are the old default and the new one. Else it names none.
unfoldable pub wanted_of : (word last_but_two : List ℕ) (words : ℕ) → Wanted
wanted_of word last_but_two words =
    wanted_if (names_defaults word last_but_two words)
    (record { command = command_of word (words - 3); defaults = Some (record { old = words - 2; new = words - 1 }) })
    (record { command = command_of word words; defaults = None })
