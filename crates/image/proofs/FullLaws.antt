-- No list of an accepted image is without rules (request 07), and so no call that asks an image hands one out.
use mathlib.Core.Path.{◌≡◌, refl, sym, ap, ◌∙◌}
use mathlib.Core.List.{List, [], ◌∷◌}
use mathlib.Core.Bool.{true, false≢true}
use Prim.Native.Nat.{ℕ, ◌+◌, ◌-◌, ◌*◌, ◌≤◌}
use native.Mathlib.Nat.{mul-le-mul_right}
use native.Mathlib.Omega.{arith}
use lib.Dec.{leb, eqb}
use lib.ListN.{length, drop}
use Rattle.rules.specs.Lists.{All}
use Rattle.rules.specs.Replies.{Reply, passed, need, unless_refused}
use Rattle.rules.proofs.ReplyLaws.{then-second, need-passed, two-values, bare-first}
use Rattle.rules.proofs.EntryLaws.{all-place}
use Rattle.std.specs.Prelude.{Option, Some, None, IfSome, is_some, Ok}
use Rattle.image.specs.declared.Listed.{Listed}
use Rattle.image.specs.declared.places.Place.{Place}
use Rattle.image_form.specs.Formats.{rule_size}
use Rattle.image_form.specs.declared.Entry.{Entry}
use Rattle.image_form.specs.Images.{Named, entry_with, format_in, count_in, lists_in, entries_of, lists_of}
use Rattle.image_form.proofs.FormatLaws.{rule-least}
use Rattle.image_form.proofs.NumberLaws.{length_part}
use Rattle.image_check.specs.Checks.{image_check}
use Rattle.image_check.proofs.BareLaws.{bare-image}
use Rattle.image_check.proofs.FullLaws.{TellsRules, every-entry-tells}
use Rattle.image.specs.Places.{place_in, place_at, place_of, count_at, list_with}
use Rattle.image.specs.Replies.{listed_reply}
use Rattle.image.specs.Calls.{entry_reply, id_check, body_at, body_of, ReadOut}
use Rattle.image.proofs.SeekLaws.{id-facts, places-fit, pick-some, length-entries, length-rules_in}
use Rattle.image.proofs.AskLaws.{entry-range}
use Rattle.image.proofs.PassedLaws.{length-with}
use Rattle.image.proofs.ReadLaws.{id-image, read-passed, read_held}

-- A list that has a rule.
abbrev pub HasRules : Named → Type 0
HasRules l = 1 ≤ length l.rules

-- ---- the lists

full-in : (fmt : ℕ) (es : List Entry) (s : List ℕ) → All TellsRules es → All HasRules (lists_in fmt es s)
unfolding lists_in
full-in fmt [] s a = tt
full-in fmt (e ∷ es) s a =
    (omega (arith, a.0, length-rules_in fmt e.count s), full-in fmt es (drop (rule_size fmt * e.count) s) a.1)

-- Every list of an accepted image has a rule.
pub no-list-empty : (b : List ℕ) → image_check b ≡ passed → All HasRules (lists_of b)
unfolding lists_of
no-list-empty b f = full-in (format_in b) (entries_of b) (drop (4 + 8 * count_in b) b) (every-entry-tells b f)

-- ---- what the calls hand out

place-some : (fmt id next : ℕ) (es : List Entry) → All TellsRules es → IfSome (place_in fmt id next es) (λ p. 1 ≤ p.count)
unfolding place_in
place-some fmt id next [] a = tt
place-some fmt id next (e ∷ es) a =
    let z : ℕ = next + rule_size fmt * e.count in
    pick-some (λ p. 1 ≤ p.count) (eqb e.id id) (Some (place_at next e.count)) (place_in fmt id z es) a.0 (place-some fmt id z es a.1)

counts_some : (x : Option Place) → IfSome x (λ p. 1 ≤ p.count) → is_some x ≡ true → 1 ≤ count_at x
counts_some (Some p) h t = h
counts_some None h t = absurd (false≢true t)

-- The list that is found by an id has a rule.
pub found_some : (b : List ℕ) (id : ℕ) → id_check b id ≡ passed → 1 ≤ length (list_with b id)
unfolding id_check place_of
found_some b id f =
    omega (
      arith,
      length-with b id,
      counts_some (place_in (format_in b) id (4 + 8 * count_in b) (entries_of b))
          (place-some (format_in b) id (4 + 8 * count_in b) (entries_of b) (every-entry-tells b (id-image b id f)))
          (need-passed _ 15 0 0 (then-second (image_check b) _ [] f)),
    )

-- `read`, where it gives a number, read a rule.
pub read_some : (b : List ℕ) (id : ℕ) (c v d c' v' d' : List ℕ) (n : ℕ) → ReadOut b id c v d (Ok n) c' v' d' → 1 ≤ n
read_some b id c v d c' v' d' n o =
    omega (
      arith,
      found_some b id (read-passed b id c v d (Ok n) c' v' d' o n refl),
      (read_held b id c v d (Ok n) c' v' d' o n refl).size,
    )

body-long : (fmt : ℕ) (b : List ℕ) (x : Option Place) → IfSome x (λ p. p.from + rule_size fmt * p.count ≤ length b) → length (body_at fmt b x) ≡ rule_size fmt * count_at x
body-long fmt b (Some p) h = length_part (rule_size fmt * p.count) p.from b h
body-long fmt b None h = omega arith

-- The part that `body` hands back is empty only where it is a refusal.
pub body-some : (b : List ℕ) (id : ℕ) → id_check b id ≡ passed → 1 ≤ length (body_of b id)
unfolding body_of
body-some b id f =
    let n : ℕ = count_at (place_of b id) in
    let long : length (body_of b id) ≡ rule_size (format_in b) * n =
    ap (λ (u : Reply). length (unless_refused u (body_at (format_in b) b (place_of b id)) [])) f
    ∙ body-long (format_in b) b (place_of b id) (places-fit b id (id-facts b id f).sums) in
    omega (arith, long, found_some b id f, length-with b id, mul-le-mul_right n (rule-least (format_in b)))

-- `entry`, where it tells of a list, tells of a rule.
pub entry-some : (b : List ℕ) (k : ℕ) (l : Listed) → listed_reply (Ok l) ≡ entry_reply b k → 1 ≤ l.rules
unfolding entry_reply entries_of
entry-some b k l e =
    let ms : List ℕ = l.id ∷ l.rules ∷ [] in
    let range = entry-range b k ms (sym e) in
    let told =
    two-values (then-second (need (leb k (count_in b)) 15 0 0) _ ms (then-second (need (leb 1 k) 15 0 0) _ ms (then-second (image_check b) _ ms (sym e)))) in
    let some = all-place TellsRules (entries_of b) (k - 1) (entry_with 0 0 0) (every-entry-tells b (bare-first (image_check b) _ (bare-image b) ms (sym e))) (omega (arith, range.0, range.1, length-entries (count_in b) (drop 4 b))) in
    omega (arith, some, told.1)
