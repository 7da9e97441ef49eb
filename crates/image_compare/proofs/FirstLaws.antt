-- The first list of an accepted image, by the id that its contents tell.
use mathlib.Core.Path.{◌≡◌, refl, sym, ap, ◌∙◌}
use mathlib.Core.List.{List, []}
use Prim.Native.Nat.{ℕ, ◌+◌, ◌*◌, ◌≤◌}
use native.Mathlib.Omega.{arith}
use lib.ListN.{drop}
use Rattle.std.specs.Prelude.{is_some}
use Rattle.rules.specs.Replies.{Reply, Gives, Refuses, passed, ◌then◌}
use Rattle.rules.proofs.ReplyLaws.{need-yes, Bare}
use Rattle.image_form.specs.declared.Entry.{Entry}
use Rattle.image_form.specs.Images.{entry_with, format_in, count_in, entries_of, rules_in, lists_in, lists_of}
use Rattle.image_form.specs.Parts.{entry_from}
use Rattle.image_check.specs.Checks.{image_check}
use Rattle.image.specs.Places.{place_of, list_with}
use Rattle.image.specs.Calls.{entry_number, id_check}
use Rattle.image_form.proofs.PartLaws.{entry-there}
use Rattle.image_check.proofs.BareLaws.{bare-image}
use Rattle.image_check.proofs.StepLaws.{entries-step}
use Rattle.image.proofs.SeekLaws.{image-facts, entry-stands}
use Rattle.image.proofs.PassedLaws.{first_entry, first-within, first_found, first_body}
use Rattle.image_compare.specs.Comparing.{rules_of_first, first_rules}

first-rules : (b : List ℕ) → 1 ≤ count_in b → first_rules b ≡ rules_in (format_in b) (first_entry b).count (drop (4 + 8 * count_in b) b)
unfolding first_rules rules_of_first lists_of entries_of lists_in
first-rules b h =
    ap (λ (es : List Entry). rules_of_first (lists_in (format_in b) es (drop (4 + 8 * count_in b) b))) (entries-step (count_in b) (drop 4 b) (omega arith))

-- asking for it by the id in the first contents entry gives its rules
pub first-list : (b : List ℕ) → image_check b ≡ passed → list_with b (first_entry b).id ≡ first_rules b
first-list b f = first_body b f ∙ sym (first-rules b (image-facts b [] f).head.some)

-- the same, by the id that a reader is told of entry number 1
pub first-listed : (b : List ℕ) → image_check b ≡ passed → list_with b (entry_number b 1).id ≡ first_rules b
first-listed b f =
    let h : 1 ≤ count_in b = (image-facts b [] f).head.some in
    ap (λ (e : Entry). list_with b e.id) (entry-stands b 0 (entry_with 0 0 0) (omega arith)) ∙ first-list b f

-- the id that is read without a look at the checks is that of the first list
pub first-told : (b : List ℕ) (i : ℕ) → i ≡ (entry_from 4 b).id → image_check b ≡ passed → i ≡ (first_entry b).id
first-told b i g f = g ∙ ap (λ (e : Entry). e.id) (entry-there 4 b (first-within b f))

nothing-more : (a x : Reply) → Bare a → (a ≡ passed → x ≡ passed) → (a then x) ≡ a
nothing-more (Gives ns) x k f = let e : Gives ns ≡ passed = k ns refl in f e ∙ sym e
nothing-more (Refuses n l r) x k f = refl

-- there is no 15 where the first list is asked for
pub first-check : (b : List ℕ) (i : ℕ) → i ≡ (entry_from 4 b).id → id_check b i ≡ image_check b
unfolding id_check
first-check b i g =
    nothing-more (image_check b) _ (bare-image b)
    (λ f. need-yes _ 15 0 0 (ap (λ (k : ℕ). is_some (place_of b k)) (first-told b i g f) ∙ first_found b f))
