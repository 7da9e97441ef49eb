-- What the writer replies, and what the lent bytes hold afterwards (01, Refusal numbers: the writer's order).
use Rattle.std.specs.Prelude.{◌≡◌, ℕ, ◌+◌, ◌*◌, List, [], ◌∷◌, length, take, drop, leb, eqb, Result}
use Rattle.rules.specs.Rule.{Rule}
use Rattle.rules.specs.Slices.{rules_of, filled}
use Rattle.rules.specs.declared.Refusal.{Refusal}
use Rattle.rules.specs.declared.RuleList.{RuleList}
use Rattle.rules.specs.Replies.{Reply, Gives, passed, need, ◌then◌, unless_refused, number_reply}
use Rattle.rules.specs.Checks.{lengths_check, room_check}
use Rattle.image_form.specs.Formats.{rule_size, format_check, range_check}
use Rattle.image_form.specs.Images.{Named, named, bytes_of}
use Rattle.image_check.specs.Checks.{count_check, lists_check}

unfoldable pub sum_of : List ℕ → ℕ
sum_of [] = 0
sum_of (n ∷ ns) = n + sum_of ns

-- Rules one after the other, cut into lists: as many for each id as its count says.
unfoldable pub lists_from : (ids counts : List ℕ) → List Rule → List Named
lists_from [] ns rs = []
lists_from (i ∷ is) [] rs = []
lists_from (i ∷ is) (n ∷ ns) rs = named i (take n rs) ∷ lists_from is ns (drop n rs)

-- The lists that a writer is given.
abbrev pub given : (ids counts cares values decisions : List ℕ) → List Named
given ids ns cs vs ds = lists_from ids ns (rules_of cs vs ds)

-- The same of rules as they are lent; and so below.
abbrev pub given_in : (ids counts : List ℕ) → RuleList → List Named
given_in ids ns x = given ids ns x.care.now x.value.now x.decision.now

-- The lists from number l on: the id is `least` or more, then from 1 to 1,024 rules; the next id is greater than this one.
unfoldable pub names_check : (l least : ℕ) → (ids counts : List ℕ) → Reply
names_check l least [] ns = passed
names_check l least (i ∷ is) [] = passed
names_check l least (i ∷ is) (n ∷ ns) =
    need (leb least i) 13 l 0
    then count_check l n
    then names_check (l + 1) (i + 1) is ns

-- The bytes of an image of so many lists and rules.
abbrev pub image_length : (f lists rules : ℕ) → ℕ
image_length f l n = 4 + 8 * l + rule_size f * n

-- 2: slices that belong together differ in length, or the counts do not add up to the rules given.
unfoldable pub given_check : (ids counts cares values decisions : List ℕ) → Reply
given_check ids ns cs vs ds =
    need (eqb (length ids) (length ns)) 2 0 0
    then lengths_check cs vs ds
    then need (eqb (sum_of ns) (length ds)) 2 0 0

abbrev pub given_check_in : (ids counts : List ℕ) → RuleList → Reply
given_check_in ids ns x = given_check ids ns x.care.now x.value.now x.decision.now

-- 11 (the format), 1, 2 and 12 (the number of lists).
unfoldable pub shape_check : (f w : ℕ) → (ids counts cares values decisions : List ℕ) → Reply
shape_check f w ids ns cs vs ds =
    format_check f
    then range_check f w
    then given_check ids ns cs vs ds
    then need (leb 1 (length ids)) 12 0 0
    then need (leb (length ids) 16) 12 0 0

abbrev pub shape_check_in : (f w : ℕ) → (ids counts : List ℕ) → RuleList → Reply
shape_check_in f w ids ns x = shape_check f w ids ns x.care.now x.value.now x.decision.now

-- The writer's checks: 11, 1, 2, 12, per list 13, 24 (request 07) and 3, the rules, 10, 7.
unfoldable pub write_check : (f w : ℕ) → (ids counts cares values decisions : List ℕ) → (room : ℕ) → Reply
write_check f w ids ns cs vs ds room =
    shape_check f w ids ns cs vs ds
    then names_check 1 0 ids ns
    then lists_check w 1 (given ids ns cs vs ds)
    then need (leb (image_length f (length ids) (length ds)) 65536) 10 0 0
    then room_check (image_length f (length ids) (length ds)) room

abbrev pub write_check_in : (f w : ℕ) → (ids counts : List ℕ) → RuleList → (room : ℕ) → Reply
write_check_in f w ids ns x room = write_check f w ids ns x.care.now x.value.now x.decision.now room

-- The answer is the image's length.
unfoldable pub write_reply : (f w : ℕ) → (ids counts cares values decisions out : List ℕ) → Reply
write_reply f w ids ns cs vs ds out =
    write_check f w ids ns cs vs ds (length out) then Gives (image_length f (length ids) (length ds) ∷ [])

-- Writing: the answer, and the lent bytes afterwards: the image from the first byte on, and later bytes as they were.
pub record Written (f w : ℕ) (ids ns cs vs ds out : List ℕ) (r : Result ℕ Refusal) (out' : List ℕ) : Type 0 where
  pub answer : number_reply r ≡ write_reply f w ids ns cs vs ds out
  pub bytes : out' ≡ unless_refused (write_reply f w ids ns cs vs ds out) (filled (bytes_of f w (given ids ns cs vs ds)) out) out

abbrev pub WrittenIn : (f w : ℕ) → (ids counts : List ℕ) → RuleList → (out : List ℕ) → Result ℕ Refusal → (out' : List ℕ) → Type 0
WrittenIn f w ids ns x out r out' = Written f w ids ns x.care.now x.value.now x.decision.now out r out'
