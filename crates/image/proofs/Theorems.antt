-- What holds of images: lists by their ids, bodies and offsets.
use mathlib.Core.Path.{◌≡◌, refl, sym, ap, ◌∙◌}
use mathlib.Core.List.{List, [], ◌∷◌}
use mathlib.Core.Bool.{Bool, true, false}
use Prim.Native.Nat.{ℕ, zero, suc, ◌+◌, ◌*◌, ◌≤◌, ◌<◌}
use native.Mathlib.Omega.{arith}
use lib.Dec.{eqb}
use lib.ListN.{length, get_or, take, drop, length-drop}
use lib.Seq.{drop-drop}
use Rattle.rules.specs.Rule.{Rule}
use Rattle.rules.specs.Replies.{Reply, passed, unless_refused}
use Rattle.image.specs.declared.places.Place.{Place}
use Rattle.image_form.specs.Formats.{rule_size}
use Rattle.image_form.specs.declared.Entry.{Entry}
use Rattle.image_form.specs.Images.{Named, rule_in, rules_in, lists_in, total, format_in, count_in, entries_of, lists_of, rules_bytes}
use Rattle.image_check.specs.Checks.{entries_check, contents_check, image_check}
use Rattle.image.specs.Places.{place_in, place_at, pick_place, place_of, count_at, rules_at, list_with}
use Rattle.image.specs.Calls.{id_check, body_at, body_of}
use Rattle.std.specs.Prelude.{Option, Some, None, IfSome}
use Rattle.std.proofs.lemmas.List.{drop-take}
use Rattle.image_form.proofs.NumberLaws.{rule-within}
use Rattle.image_check.proofs.PassedLaws.{contents-passed, entries-facts}
use Rattle.image.proofs.SeekLaws.{id-facts, places-fit}
use Rattle.image.proofs.BackLaws.{AreBytes, bytes_drop, rules-back}

-- ---- a list by its id

abbrev pick_rules : Bool → List Rule → List Rule → List Rule
pick_rules true a b = a
pick_rules false a b = b

-- The rules of the list with that id; none where there is none.
unfoldable pub rules_named : (id : ℕ) → List Named → List Rule
rules_named id [] = []
rules_named id (l ∷ ls) = pick_rules (eqb l.id id) l.rules (rules_named id ls)

picked : (fmt : ℕ) (t : Bool) (b : List ℕ) (x y : Option Place) → rules_at fmt b (pick_place t x y) ≡ pick_rules t (rules_at fmt b x) (rules_at fmt b y)
picked fmt true b x y = refl
picked fmt false b x y = refl

named_in : (fmt id next : ℕ) (es : List Entry) (b : List ℕ) → rules_at fmt b (place_in fmt id next es) ≡ rules_named id (lists_in fmt es (drop next b))
unfolding place_in rules_named lists_in
named_in fmt id next [] b = refl
named_in fmt id next (e ∷ es) b =
    picked fmt (eqb e.id id) b (Some (place_at next e.count)) (place_in fmt id (next + rule_size fmt * e.count) es)
    ∙ ap (pick_rules (eqb e.id id) (rules_in fmt e.count (drop next b)))
    (named_in fmt id (next + rule_size fmt * e.count) es b ∙ ap (λ (s : List ℕ). rules_named id (lists_in fmt es s)) (sym (drop-drop (rule_size fmt * e.count) next b)))

-- The rules that are read out for an id are those of the image's list with that id.
pub list-named : (b : List ℕ) (id : ℕ) → list_with b id ≡ rules_named id (lists_of b)
unfolding list_with place_of lists_of
list-named b id = named_in (format_in b) id (4 + 8 * count_in b) (entries_of b) b

-- ---- the body and the reading out

prefix : (fmt n : ℕ) (s : List ℕ) → rules_in fmt n (take (rule_size fmt * n) s) ≡ rules_in fmt n s
unfolding rules_in
prefix fmt zero s = refl
prefix fmt (suc n) s =
    let z : ℕ = rule_size fmt in
    let times : z * suc n ≡ z + z * n = omega arith in
    let shorter : drop z (take (z * suc n) s) ≡ take (z * n) (drop z s) = ap (λ (k : ℕ). drop z (take k s)) times ∙ drop-take z (z * n) s in
    (λ j. rule-within fmt (z * suc n) s (omega arith) j ∷ rules_in fmt n (shorter j))
    ∙ ap (λ (rs : List Rule). rule_in fmt s ∷ rs) (prefix fmt n (drop z s))

rules-there : (fmt : ℕ) (b : List ℕ) (x : Option Place) → rules_in fmt (count_at x) (body_at fmt b x) ≡ rules_at fmt b x
unfolding rules_in
rules-there fmt b (Some p) = prefix fmt p.count (drop p.from b)
rules-there fmt b None = refl

-- The body that is handed back holds the rules that are read out.
pub body-rules : (b : List ℕ) (id : ℕ) → id_check b id ≡ passed → rules_in (format_in b) (count_at (place_of b id)) (body_of b id) ≡ list_with b id
unfolding body_of list_with
body-rules b id f =
    ap (λ (u : Reply). rules_in (format_in b) (count_at (place_of b id)) (unless_refused u (body_at (format_in b) b (place_of b id)) [])) f
    ∙ rules-there (format_in b) b (place_of b id)

bytes-there : (fmt : ℕ) (b : List ℕ) (x : Option Place) → AreBytes b → IfSome x (λ p. p.from + rule_size fmt * p.count ≤ length b)
    → body_at fmt b x ≡ rules_bytes fmt (rules_at fmt b x)
unfolding rules_bytes
bytes-there fmt b (Some p) h fits = sym (rules-back fmt p.count (drop p.from b) (bytes_drop p.from b h) (omega (arith, length-drop p.from b)))
bytes-there fmt b None h fits = refl

-- The body that is handed back is the bytes of the rules that are read out.
pub body_bytes : (b : List ℕ) (id : ℕ) → AreBytes b → id_check b id ≡ passed → body_of b id ≡ rules_bytes (format_in b) (list_with b id)
unfolding body_of list_with
body_bytes b id h f =
    ap (λ (u : Reply). unless_refused u (body_at (format_in b) b (place_of b id)) []) f
    ∙ bytes-there (format_in b) b (place_of b id) h (places-fit b id (id-facts b id f).sums)

-- ---- offsets

offset-in : (fmt size next least l : ℕ) (es : List Entry) (k : ℕ) (d : Entry) → entries_check fmt size next least l es ≡ passed → k < length es
    → (get_or es k d).offset ≡ next + rule_size fmt * total (take k es)
unfolding total
offset-in fmt size next least l [] k d f h = absurd (omega arith)
offset-in fmt size next least l (e ∷ es) zero d f h =
    (entries-facts fmt size next least l e es f).0.starts ∙ omega arith
offset-in fmt size next least l (e ∷ es) (suc k) d f h =
    offset-in fmt size (next + rule_size fmt * e.count) (e.id + 1) (l + 1) es k d (entries-facts fmt size next least l e es f).1 (omega arith)
    ∙ omega arith

-- In an accepted image an entry's offset is the running position: the contents' end and the bodies before it.
pub offset-runs : (b : List ℕ) (k : ℕ) (d : Entry) → image_check b ≡ passed → k < length (entries_of b)
    → (get_or (entries_of b) k d).offset ≡ 4 + 8 * count_in b + rule_size (format_in b) * total (take k (entries_of b))
unfolding contents_check
offset-runs b k d f h = offset-in (format_in b) (length b) (4 + 8 * count_in b) 0 1 (entries_of b) k d (contents-passed b f) h
