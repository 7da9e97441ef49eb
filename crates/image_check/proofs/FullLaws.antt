-- What refusal 24 turns away, and that it turns away nothing else: an image passes exactly when it passes the check without 24 and every
-- contents entry tells of a rule; and one whose entries all do is refused or accepted as without 24.
use mathlib.Core.Path.{◌≡◌, refl, sym, ap, ◌∙◌}
use mathlib.Core.Logic.{◌↔◌}
use mathlib.Core.List.{List, [], ◌∷◌}
use Prim.Native.Nat.{ℕ, ◌+◌, ◌*◌, ◌≤◌}
use lib.Dec.{leb, eqb}
use lib.ListN.{length}
use borrow.Author.Tests.{le-leb}
use Rattle.rules.specs.Lists.{All}
use Rattle.rules.specs.Replies.{Reply, passed, need, ◌then◌}
use Rattle.rules.specs.Checks.{size_check}
use Rattle.rules.proofs.ReplyLaws.{then_next, need-yes}
use Rattle.image_form.specs.Formats.{rule_size}
use Rattle.image_form.specs.declared.Entry.{Entry}
use Rattle.image_form.specs.Images.{format_in, count_in, entries_of}
use Rattle.image_check.specs.Checks.{head_check, count_check, entry_check, entries_check, contents_check, bodies_check, image_check}
use Rattle.image_check.proofs.PassedLaws.{contents-passed, entries-facts}

-- A contents entry that tells of a rule.
abbrev pub TellsRules : Entry → Type 0
TellsRules e = 1 ≤ e.count

-- ---- what passed

tells-in : (fmt size next least l : ℕ) (es : List Entry) → entries_check fmt size next least l es ≡ passed → All TellsRules es
tells-in fmt size next least l [] f = tt
tells-in fmt size next least l (e ∷ es) f =
    let k = entries-facts fmt size next least l e es f in
    (k.0.some, tells-in fmt size (next + rule_size fmt * e.count) (e.id + 1) (l + 1) es k.1)

-- Every contents entry of an accepted image tells of a rule.
pub every-entry-tells : (b : List ℕ) → image_check b ≡ passed → All TellsRules (entries_of b)
unfolding contents_check
every-entry-tells b f = tells-in (format_in b) (length b) (4 + 8 * count_in b) 0 1 (entries_of b) (contents-passed b f)

-- ---- the checks without 24, as they were before request 07

-- 24 of a count that is not 0 is passed.
pub count-without : (l n : ℕ) → 1 ≤ n → count_check l n ≡ size_check l n
unfolding count_check
count-without l n h = then_next _ _ (need-yes _ 24 l 0 (le-leb 1 n h))

abbrev pub entry_without : (fmt size next least l : ℕ) → Entry → Reply
entry_without fmt size next least l e =
    need (leb least e.id) 13 l 0
    then need (eqb e.offset next) 14 l 0
    then size_check l e.count
    then need (leb (next + rule_size fmt * e.count) size) 10 l 0

unfoldable pub entries_without : (fmt size next least l : ℕ) → List Entry → Reply
entries_without fmt size next least l [] = need (eqb next size) 10 0 0
entries_without fmt size next least l (e ∷ es) =
    entry_without fmt size next least l e
    then entries_without fmt size (next + rule_size fmt * e.count) (e.id + 1) (l + 1) es

-- The check of an image without 24.
unfoldable pub image_without : List ℕ → Reply
image_without b =
    head_check b
    then entries_without (format_in b) (length b) (4 + 8 * count_in b) 0 1 (entries_of b)
    then bodies_check b

entry-without : (fmt size next least l : ℕ) (e : Entry) → TellsRules e → entry_check fmt size next least l e ≡ entry_without fmt size next least l e
unfolding entry_check
entry-without fmt size next least l e h =
    ap (λ (u : Reply).
    need (leb least e.id) 13 l 0
    then need (eqb e.offset next) 14 l 0
    then u
    then need (leb (next + rule_size fmt * e.count) size) 10 l 0)
    (count-without l e.count h)

entries-without : (fmt size next least l : ℕ) (es : List Entry) → All TellsRules es → entries_check fmt size next least l es ≡ entries_without fmt size next least l es
unfolding entries_check entries_without
entries-without fmt size next least l [] a = refl
entries-without fmt size next least l (e ∷ es) a =
    λ j. entry-without fmt size next least l e a.0 j
    then entries-without fmt size (next + rule_size fmt * e.count) (e.id + 1) (l + 1) es a.1 j

-- An image whose contents entries all tell of a rule is checked as without 24: the same number and place, or accepted.
pub checked-without : (b : List ℕ) → All TellsRules (entries_of b) → image_check b ≡ image_without b
unfolding image_check contents_check image_without
checked-without b a =
    ap (λ (u : Reply). head_check b then u then bodies_check b) (entries-without (format_in b) (length b) (4 + 8 * count_in b) 0 1 (entries_of b) a)

-- An image is accepted exactly when it is accepted without 24 and every contents entry tells of a rule.
pub accepted-exactly : (b : List ℕ) → (image_check b ≡ passed) ↔ ((image_without b ≡ passed) × All TellsRules (entries_of b))
accepted-exactly b = (
  (λ f. let a = every-entry-tells b f in (sym (checked-without b a) ∙ f, a)),
  (λ p. checked-without b p.1 ∙ p.0),
)
