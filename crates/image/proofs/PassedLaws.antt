-- What an image that passed its checks gives a reader: by each id, the rules of a list of the image's width; and a first list.
use mathlib.Core.Path.{◌≡◌, refl, ap, ◌∙◌, subst}
use mathlib.Core.List.{List, [], ◌∷◌}
use mathlib.Core.Bool.{true}
use Prim.Native.Nat.{ℕ, ◌+◌, ◌-◌, ◌*◌, ◌≤◌}
use native.Mathlib.Omega.{arith}
use lib.Dec.{eqb}
use lib.ListN.{length, drop}
use lib.Seq.{drop-drop}
use Rattle.rules.specs.Rules.{Valid}
use Rattle.rules.specs.Lists.{All}
use Rattle.rules.specs.Replies.{passed}
use Rattle.rules.specs.Checks.{widest}
use Rattle.image.specs.declared.places.Place.{Place}
use Rattle.image_form.specs.Formats.{rule_size}
use Rattle.image_form.specs.declared.Entry.{Entry}
use Rattle.image_form.specs.Images.{named, entry_in, format_in, width_in, count_in, entries_of, rules_in, lists_in, lists_of}
use Rattle.image_check.specs.Checks.{entries_check, lists_check, contents_check, bodies_check, image_check}
use Rattle.image.specs.Places.{place_in, place_at, place_of, count_at, rules_at, list_with}
use Rattle.std.specs.Prelude.{Option, Some, None, IfSome, is_some}
use Rattle.image_check.proofs.HeadLaws.{head-narrow}
use Rattle.image_check.proofs.PassedLaws.{contents-passed, bodies-passed, entries-facts, lists-facts}
use Rattle.image.proofs.SeekLaws.{image-facts, place-start, place_here, pick-some, length-rules_in}

-- ---- the rules at a place

abbrev Good : (fmt w : ℕ) → List ℕ → Place → Type 0
Good fmt w b p = (p.count ≤ 1024) × All (Valid w) (rules_in fmt p.count (drop p.from b))

place-good : (fmt w size next least l k id : ℕ) (b : List ℕ) (es : List Entry) → entries_check fmt size next least l es ≡ passed
    → lists_check w k (lists_in fmt es (drop next b)) ≡ passed → IfSome (place_in fmt id next es) (Good fmt w b)
unfolding lists_in place_in
place-good fmt w size next least l k id b [] f g = tt
place-good fmt w size next least l k id b (e ∷ es) f g =
    let z : ℕ = rule_size fmt * e.count in
    let here = entries-facts fmt size next least l e es f in
    let rules = lists-facts w k (named e.id (rules_in fmt e.count (drop next b))) (lists_in fmt es (drop z (drop next b))) g in
    pick-some (Good fmt w b) (eqb e.id id) (Some (place_at next e.count)) (place_in fmt id (next + z) es) (here.0.few, rules.0)
    (place-good fmt w size (next + z) (e.id + 1) (l + 1) (k + 1) id b es here.1
    (subst (λ (s : List ℕ). lists_check w (k + 1) (lists_in fmt es s) ≡ passed) (drop-drop z next b) rules.1))

length-at : (fmt : ℕ) (b : List ℕ) (x : Option Place) → length (rules_at fmt b x) ≡ count_at x
length-at fmt b (Some p) = length-rules_in fmt p.count (drop p.from b)
length-at fmt b None = refl

module _ (fmt w : ℕ) (b : List ℕ) where
  good-few : (x : Option Place) → IfSome x (Good fmt w b) → count_at x ≤ 1024
  good-few (Some p) g = g.0
  good-few None g = omega arith

  good-rules : (x : Option Place) → IfSome x (Good fmt w b) → All (Valid w) (rules_at fmt b x)
  good-rules (Some p) g = g.1
  good-rules None g = tt

-- ---- the list with an id

pub length-with : (b : List ℕ) (id : ℕ) → length (list_with b id) ≡ count_at (place_of b id)
unfolding list_with
length-with b id = length-at (format_in b) b (place_of b id)

-- what a list has to have, whatever id is asked for
pub record ListFacts (b : List ℕ) (id : ℕ) : Type 0 where
  pub least : 1 ≤ width_in b
  pub most : width_in b ≤ widest
  pub few : count_at (place_of b id) ≤ 1024
  pub valid : All (Valid (width_in b)) (list_with b id)

pub list-facts : (b : List ℕ) (id : ℕ) → image_check b ≡ passed → ListFacts b id
unfolding contents_check bodies_check lists_of place_of list_with
list-facts b id f =
    let i = image-facts b [] f in
    let good = place-good (format_in b) (width_in b) (length b) (4 + 8 * count_in b) 0 1 1 id b (entries_of b) (contents-passed b f) (bodies-passed b f) in
    record {
      least = i.head.wide;
      most = head-narrow b i.head;
      few = good-few (format_in b) (width_in b) b (place_of b id) good;
      valid = good-rules (format_in b) (width_in b) b (place_of b id) good;
    }

-- ---- the first list

-- the first contents entry, which stands right after the head
abbrev pub first_entry : List ℕ → Entry
first_entry b = entry_in (drop 4 b)

first-place : (b : List ℕ) → 1 ≤ count_in b → place_of b (first_entry b).id ≡ Some (place_at (4 + 8 * count_in b) (first_entry b).count)
first-place b h =
    place-start b (first_entry b).id (count_in b) (count_in b - 0) refl (let e : count_in b - 0 ≡ count_in b = omega arith in e)
    ∙ place_here b (count_in b) 0 (format_in b) (first_entry b).id (4 + 8 * count_in b) (omega arith) (first_entry b) refl refl

-- an accepted image has a first entry, and the id in it names a list: the one whose body stands right after the contents
module _ (b : List ℕ) (f : image_check b ≡ passed) where
  pub first-within : 12 ≤ length b
  first-within = let h = (image-facts b [] f).head in omega (arith, h.some, h.contents)

  pub first_found : is_some (place_of b (first_entry b).id) ≡ true
  first_found = ap is_some (first-place b (image-facts b [] f).head.some)

  pub first_body : list_with b (first_entry b).id ≡ rules_in (format_in b) (first_entry b).count (drop (4 + 8 * count_in b) b)
  unfolding list_with
  first_body = ap (rules_at (format_in b) b) (first-place b (image-facts b [] f).head.some)
