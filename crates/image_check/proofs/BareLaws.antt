-- The checks of an image give no values: one that is passed before another is passed as such.
use mathlib.Core.Path.{refl}
use mathlib.Core.List.{List, [], ◌∷◌}
use Prim.Native.Nat.{ℕ, ◌+◌, ◌*◌}
use lib.Dec.{leb, eqb}
use lib.ListN.{length, get_or}
use Rattle.rules.specs.Rule.{Rule}
use Rattle.rules.specs.Replies.{need}
use Rattle.rules.specs.Checks.{rule_check, rules_check}
use Rattle.rules.proofs.ReplyLaws.{Bare, bare-need, bare-then}
use Rattle.image_form.specs.Formats.{rule_size, format_check, range_check}
use Rattle.image_form.specs.declared.Entry.{Entry}
use Rattle.image_form.specs.Images.{Named, format_in, width_in, count_in, entries_of, lists_of}
use Rattle.image_check.specs.Checks.{head_check, count_check, entry_check, entries_check, contents_check, lists_check, bodies_check, image_check}

pub bare-rules : (w l i : ℕ) (rs : List Rule) → Bare (rules_check w l i rs)
unfolding rules_check
bare-rules w l i [] ns e = refl
bare-rules w l i (r ∷ rs) ns e = bare-then (rule_check w l i r) (rules_check w l (i + 1) rs) (bare-rules w l (i + 1) rs) ns e

pub bare-lists : (w l : ℕ) (ls : List Named) → Bare (lists_check w l ls)
unfolding lists_check
bare-lists w l [] ns e = refl
bare-lists w l (x ∷ xs) ns e = bare-then (rules_check w l 1 x.rules) (lists_check w (l + 1) xs) (bare-lists w (l + 1) xs) ns e

pub bare-head : (b : List ℕ) → Bare (head_check b)
unfolding head_check
bare-head b =
    bare-then (need (leb 4 (length b)) 10 0 0) _
    (bare-then (need (leb (length b) 65536) 10 0 0) _
    (bare-then (format_check (format_in b)) _
    (bare-then (need (eqb (get_or b 3 0) 0) 11 0 0) _
    (bare-then (range_check (format_in b) (width_in b)) _
    (bare-then (need (leb 1 (count_in b)) 12 0 0) _
    (bare-then (need (leb (count_in b) 16) 12 0 0) _ (bare-need (leb (4 + 8 * count_in b) (length b)) 12 0 0)))))))

pub bare-entry : (fmt size next least l : ℕ) (e : Entry) → Bare (entry_check fmt size next least l e)
unfolding entry_check
bare-entry fmt size next least l e =
    bare-then (need (leb least e.id) 13 l 0) _
    (bare-then (need (eqb e.offset next) 14 l 0) _
    (bare-then (count_check l e.count) _ (bare-need (leb (next + rule_size fmt * e.count) size) 10 l 0)))

pub bare-entries : (fmt size next least l : ℕ) (es : List Entry) → Bare (entries_check fmt size next least l es)
unfolding entries_check
bare-entries fmt size next least l [] ns f = bare-need (eqb next size) 10 0 0 ns f
bare-entries fmt size next least l (e ∷ es) ns f =
    bare-then (entry_check fmt size next least l e) _ (bare-entries fmt size (next + rule_size fmt * e.count) (e.id + 1) (l + 1) es) ns f

pub bare-contents : (b : List ℕ) → Bare (contents_check b)
unfolding contents_check
bare-contents b = bare-entries (format_in b) (length b) (4 + 8 * count_in b) 0 1 (entries_of b)

pub bare-bodies : (b : List ℕ) → Bare (bodies_check b)
unfolding bodies_check
bare-bodies b = bare-lists (width_in b) 1 (lists_of b)

pub bare-image : (b : List ℕ) → Bare (image_check b)
unfolding image_check
bare-image b = bare-then (head_check b) _ (bare-then (contents_check b) _ (bare-bodies b))
