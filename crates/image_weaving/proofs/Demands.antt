-- What `weave_image`, `prune_image` and `tally` owe their user, read off their own promises: the image that is left, that it is accepted and
-- no longer, which lists it has, that none is empty, and how they answer; and that a refused call leaves the lent bytes as they were. Weaving
-- and pruning owe the same but for what becomes of a list, so it is said once, of both.
use mathlib.Core.Path.{◌≡◌, refl, sym, ap, ap₂, ◌∙◌, subst}
use mathlib.Core.List.{List, [], ◌∷◌}
use mathlib.Core.Bool.{Bool, false, ◌||◌}
use Prim.Native.Nat.{ℕ, ◌+◌, ◌*◌, ◌≤◌}
use native.Mathlib.Nat.{mul-le-mul_left}
use native.Mathlib.Omega.{arith}
use lib.Dec.{eqb}
use lib.ListN.{length, take, drop}
use lib.Seq.{take_at, drop_at}
use Rattle.words.proofs.Tests.{split}
use Rattle.rules.specs.declared.Refusal.{Refusal}
use Rattle.rules.specs.Lists.{All}
use Rattle.rules.specs.Rule.{Rule}
use Rattle.rules.specs.Rules.{answer}
use Rattle.rules.specs.Slices.{cares_of, values_of, decisions_of, filled}
use Rattle.rules.specs.Replies.{Reply, Gives, passed, need, ◌then◌, unless_refused}
use Rattle.rules.specs.Checks.{room_check}
use Rattle.rules.specs.Calls.{check_list, looked_up, decided}
use Rattle.rules.proofs.ReplyLaws.{then-second, one_value, bare-first}
use Rattle.rules.proofs.SliceLaws.{rules-columns}
use Rattle.rules.proofs.AnswerLaws.{decide-alike-within}
use Rattle.weaving.specs.declared.Tally.{Tally}
use Rattle.weaving.specs.Runs.{join}
use Rattle.weaving.specs.Weave.{weave, kept, dropped, merges}
use Rattle.weaving.specs.Calls.{woven_reply}
use Rattle.weaving.proofs.Theorems.{weave-keeps-some, counts-add-up}
use Rattle.pruning.specs.Prune.{prune, pass_down}
use Rattle.image_form.specs.Formats.{rule_size}
use Rattle.image_form.specs.declared.Entry.{Entry}
use Rattle.image_form.specs.Images.{Named, format_in, width_in, count_in, entries_of, lists_in, lists_of, bytes_of}
use Rattle.image_check.specs.Checks.{image_check}
use Rattle.image_check.proofs.BareLaws.{bare-image}
use Rattle.std.specs.Prelude.{is_some, Ok, Err}
use Rattle.image.specs.Places.{place_in, place_of, list_with}
use Rattle.image.specs.Calls.{id_check}
use Rattle.image.proofs.PassedLaws.{list-facts}
use Rattle.image.proofs.ReadLaws.{list-passes, bare-id, id-image}
use Rattle.image.proofs.FullLaws.{HasRules, no-list-empty, found_some}
use Rattle.image.proofs.BackLaws.{AreBytes}
use Rattle.image.proofs.Theorems.{rules_named, list-named}
use Rattle.image_writer.proofs.AgainLaws.{Carried, length-bytes_of, carried-passes, carried-back}
use Rattle.image_writer.proofs.CarryLaws.{image-carried, ids-fit}
use Rattle.image_writer.proofs.ListLaws.{columns-lent}
use Rattle.image_weaving.specs.declared.Squeeze.{Squeeze}
use Rattle.image_weaving.specs.Squeezing.{squeezed, squeezed_lists, squeezed_bytes, squeeze_image_reply, ImageSqueezed}
use Rattle.image_weaving.specs.Weaving.{ImageWoven, tally_reply}
use Rattle.image_weaving.proofs.SqueezedLaws.{squeezed-answers, length-squeezed, squeezed-fewer, squeezed-carried}

-- ---- the list with an id

squeezed-none : (z : Squeeze) (w : ℕ) → squeezed z w [] ≡ []
unfolding weave join prune pass_down
squeezed-none Squeeze.Weave w = refl
squeezed-none Squeeze.Prune w = refl

squeezed-named : (z : Squeeze) (w id : ℕ) (ls : List Named) → rules_named id (squeezed_lists z w ls) ≡ squeezed z w (rules_named id ls)
unfolding rules_named squeezed_lists
squeezed-named z w id [] = sym (squeezed-none z w)
squeezed-named z w id (l ∷ ls) =
    split (eqb l.id id) (λ y. simp y) (λ n. simp n (squeezed-named z w id ls))

-- whether one of some lists has that id
abbrev is_named : (id : ℕ) → List Named → Bool
is_named id [] = false
is_named id (l ∷ ls) = eqb l.id id || is_named id ls

place-named : (fmt id next : ℕ) (es : List Entry) (s : List ℕ) → is_some (place_in fmt id next es) ≡ is_named id (lists_in fmt es s)
unfolding place_in lists_in
place-named fmt id next [] s = refl
place-named fmt id next (e ∷ es) s =
    split (eqb e.id id) (λ y. simp y) (λ n. simp n (place-named fmt id (next + rule_size fmt * e.count) es (drop (rule_size fmt * e.count) s)))

image-named : (b : List ℕ) (id : ℕ) → is_some (place_of b id) ≡ is_named id (lists_of b)
unfolding place_of lists_of
image-named b id = place-named (format_in b) id (4 + 8 * count_in b) (entries_of b) (drop (4 + 8 * count_in b) b)

squeezed-ids : (z : Squeeze) (w id : ℕ) (ls : List Named) → is_named id (squeezed_lists z w ls) ≡ is_named id ls
unfolding squeezed_lists
squeezed-ids z w id [] = refl
squeezed-ids z w id (l ∷ ls) = ap (λ (t : Bool). eqb l.id id || t) (squeezed-ids z w id ls)

-- the rules of an accepted image's list, in slices of their own, pass the checks of a list
columns-pass : (b : List ℕ) (id : ℕ) → image_check b ≡ passed
    → check_list (width_in b) 1 (cares_of (list_with b id)) (values_of (list_with b id)) (decisions_of (list_with b id)) ≡ passed
columns-pass b id f =
    let rs : List Rule = list_with b id in
    list-passes b id 1 (cares_of rs) (values_of rs) (decisions_of rs) f (columns-lent rs) (rules-columns rs)

-- ---- `weave_image` or `prune_image` answered with the number n, and left out' in the bytes that held out

module _ (z : Squeeze) (bs out out' : List ℕ) (n : ℕ) (W : ImageSqueezed z bs out (Ok n) out') where
  said : squeeze_image_reply z bs out ≡ Gives (n ∷ [])
  said = sym W.answer

  -- The image was accepted.
  pub squeezed-source-passes : image_check bs ≡ passed
  unfolding squeeze_image_reply
  squeezed-source-passes = bare-first (image_check bs) _ (bare-image bs) (n ∷ []) said

  length-is : length (squeezed_bytes z bs) ≡ n
  unfolding squeeze_image_reply
  length-is = one_value (then-second (room_check (length (squeezed_bytes z bs)) (length out)) _ (n ∷ []) (then-second (image_check bs) _ (n ∷ []) said))

  left : out' ≡ filled (squeezed_bytes z bs) out
  left = W.bytes ∙ ap (λ (u : Reply). unless_refused u (filled (squeezed_bytes z bs) out) out) said

  -- The first n bytes are the squeezed image, and later bytes are as they were.
  pub squeezed-image-bytes : (take n out' ≡ squeezed_bytes z bs) × (drop n out' ≡ drop n out)
  squeezed-image-bytes = (
    ap (take n) left ∙ take_at (squeezed_bytes z bs) (drop (length (squeezed_bytes z bs)) out) n length-is,
    ap (drop n) left ∙ drop_at (squeezed_bytes z bs) (drop (length (squeezed_bytes z bs)) out) n length-is ∙ ap (λ (k : ℕ). drop k out) length-is,
  )

  -- of the lent bytes, what the type of a byte slice says
  module _ (bytes : AreBytes bs) where
    source : Carried (format_in bs) (width_in bs) (lists_of bs)
    source = (image-carried bs (ids-fit bs bytes) squeezed-source-passes).0

    carried : Carried (format_in bs) (width_in bs) (squeezed_lists z (width_in bs) (lists_of bs))
    carried = squeezed-carried z (format_in bs) (width_in bs) (lists_of bs) source

    -- `check` finds nothing against the squeezed image.
    pub squeezed-image-passes : image_check (take n out') ≡ passed
    unfolding squeezed_bytes
    squeezed-image-passes = ap image_check squeezed-image-bytes.0 ∙ carried-passes (format_in bs) (width_in bs) (squeezed_lists z (width_in bs) (lists_of bs)) carried

    -- Each of its lists has a rule: squeezing leaves none empty (request 07).
    pub squeezed-image-full : All HasRules (lists_of (take n out'))
    squeezed-image-full = no-list-empty (take n out') squeezed-image-passes

    -- It has the lists of the image, each with its id and squeezed, in order.
    pub squeezed-image-lists : lists_of (take n out') ≡ squeezed_lists z (width_in bs) (lists_of bs)
    unfolding squeezed_bytes
    squeezed-image-lists = ap lists_of squeezed-image-bytes.0 ∙ carried-back (format_in bs) (width_in bs) (squeezed_lists z (width_in bs) (lists_of bs)) carried

    -- It has the format and the width of the image.
    pub squeezed-image-head : (format_in (take n out') ≡ format_in bs) × (width_in (take n out') ≡ width_in bs)
    unfolding squeezed_bytes bytes_of
    squeezed-image-head = (ap format_in squeezed-image-bytes.0, ap width_in squeezed-image-bytes.0)

    -- It has the ids of the image: whoever asks for a list by an id is refused, or not, as with the image.
    pub squeezed-image-ids : (id : ℕ) → id_check (take n out') id ≡ id_check bs id
    unfolding id_check
    squeezed-image-ids id =
        ap₂ (λ (a : Reply) (t : Bool). a then need t 15 0 0) (squeezed-image-passes ∙ sym squeezed-source-passes)
        (image-named (take n out') id ∙ ap (is_named id) squeezed-image-lists ∙ squeezed-ids z (width_in bs) id (lists_of bs) ∙ sym (image-named bs id))

    -- It is no longer than the image.
    pub squeezed-image-shorter : n ≤ length bs
    unfolding squeezed_bytes
    squeezed-image-shorter =
        let ls : List Named = squeezed_lists z (width_in bs) (lists_of bs) in
        omega (
          arith,
          length-is,
          length-bytes_of (format_in bs) (width_in bs) ls carried,
          length-squeezed z (width_in bs) (lists_of bs),
          (image-carried bs (ids-fit bs bytes) squeezed-source-passes).1,
          mul-le-mul_left (rule_size (format_in bs)) (squeezed-fewer z (width_in bs) (lists_of bs)),
        )

    -- The list with an id is the image's list with that id, squeezed.
    pub squeezed-image-list : (id : ℕ) → list_with (take n out') id ≡ squeezed z (width_in bs) (list_with bs id)
    squeezed-image-list id =
        list-named (take n out') id ∙ ap (rules_named id) squeezed-image-lists ∙ squeezed-named z (width_in bs) id (lists_of bs) ∙ ap (squeezed z (width_in bs)) (sym (list-named bs id))

    -- Looking a header up in it decides as looking it up in the image's list with that id: the same decision, no match where there is
    -- none, and the same refusal where the header is no header of the width.
    pub squeezed-image-lookup : (id h : ℕ)
        → decided (looked_up (width_in bs) (cares_of (list_with (take n out') id)) (values_of (list_with (take n out') id)) (decisions_of (list_with (take n out') id)) h)
        ≡ decided (looked_up (width_in bs) (cares_of (list_with bs id)) (values_of (list_with bs id)) (decisions_of (list_with bs id)) h)
    squeezed-image-lookup id h =
        decide-alike-within (width_in bs) (cares_of xs) (values_of xs) (decisions_of xs) (cares_of ys) (values_of ys) (decisions_of ys) h new (columns-pass bs id squeezed-source-passes)
        (λ l.
        ap (λ (rs : List Rule). answer rs h) (rules-columns xs ∙ squeezed-image-list id)
        ∙ squeezed-answers z (width_in bs) ys (list-facts bs id squeezed-source-passes).valid h l ∙ ap (λ (rs : List Rule). answer rs h) (sym (rules-columns ys)))
      where
        xs : List Rule
        xs = list_with (take n out') id

        ys : List Rule
        ys = list_with bs id

        new : check_list (width_in bs) 1 (cares_of xs) (values_of xs) (decisions_of xs) ≡ passed
        new =
            subst (λ (w : ℕ). check_list w 1 (cares_of xs) (values_of xs) (decisions_of xs) ≡ passed) squeezed-image-head.1 (columns-pass (take n out') id squeezed-image-passes)

-- ---- `tally` counted

module _ (bs : List ℕ) (id : ℕ) (t : Tally) (T : woven_reply (Ok t) ≡ tally_reply bs id) where
  counts : Gives (t.kept ∷ t.dropped ∷ t.merged ∷ []) ≡ Gives (kept (width_in bs) (list_with bs id) ∷ dropped (list_with bs id) ∷ merges (width_in bs) (list_with bs id) ∷ [])
  unfolding tally_reply
  counts = sym (then-second (id_check bs id) _ _ (sym T))

  keeps : t.kept ≡ kept (width_in bs) (list_with bs id)
  keeps = let e = counts in cc

  drops : t.dropped ≡ dropped (list_with bs id)
  drops = let e = counts in cc

  joins : t.merged ≡ merges (width_in bs) (list_with bs id)
  joins = let e = counts in cc

  -- The three counts add up to the number of rules of the list.
  pub tally-adds-up : t.kept + t.dropped + t.merged ≡ length (list_with bs id)
  tally-adds-up = omega (arith, keeps, drops, joins, counts-add-up (width_in bs) (list_with bs id))

  -- At least one entry is kept: no list of an image is empty, and weaving keeps one of a list that has one.
  pub tally-keeps-some : 1 ≤ t.kept
  unfolding tally_reply
  tally-keeps-some =
      let f : id_check bs id ≡ passed = bare-first (id_check bs id) _ (bare-id bs id) _ (sym T) in
      omega (arith, keeps, weave-keeps-some (width_in bs) (list_with bs id) (list-facts bs id (id-image bs id f)).valid (found_some bs id f))

  -- The entries kept are those that the woven image's list with that id has.
  pub tally-of-woven : (out out' : List ℕ) (n : ℕ) → ImageWoven bs out (Ok n) out' → AreBytes bs → t.kept ≡ length (list_with (take n out') id)
  tally-of-woven out out' n W b = keeps ∙ ap length (sym (squeezed-image-list Squeeze.Weave bs out out' n W b id))

-- ---- refused

-- A refused `weave_image` or `prune_image` leaves the lent bytes as they were.
pub refused-leaves-image : (z : Squeeze) (bs out out' : List ℕ) (x : Refusal) → ImageSqueezed z bs out (Err x) out' → out' ≡ out
refused-leaves-image z bs out out' x W = rw (sym W.answer) at W.bytes
