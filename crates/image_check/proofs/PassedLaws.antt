-- What the checks of an image say of its parts where they were passed: of the head, the contents and the bodies, of the first contents entry
-- and those after it, of the first list and those after it.
use mathlib.Core.Path.{◌≡◌}
use mathlib.Core.List.{List, [], ◌∷◌}
use Prim.Native.Nat.{ℕ, ◌+◌, ◌*◌}
use Rattle.rules.specs.Rules.{Valid}
use Rattle.rules.specs.Lists.{All}
use Rattle.rules.specs.Replies.{Gives, passed}
use Rattle.rules.specs.Checks.{rules_check}
use Rattle.rules.proofs.ReplyLaws.{then-second, bare-first}
use Rattle.rules.proofs.CheckLaws.{rules-valid}
use Rattle.image_form.specs.Formats.{rule_size}
use Rattle.image_form.specs.declared.Entry.{Entry}
use Rattle.image_form.specs.Images.{Named}
use Rattle.image_check.specs.Checks.{head_check, entry_check, entries_check, contents_check, lists_check, bodies_check, image_check}
use Rattle.image_check.proofs.BareLaws.{bare-head, bare-entry, bare-contents, bare-rules}
use Rattle.image_check.proofs.HeadLaws.{EntryFacts, entry-facts}

module _ (b : List ℕ) {ns : List ℕ} (f : image_check b ≡ Gives ns) where
  pub head_passed : head_check b ≡ passed
  unfolding image_check
  head_passed = bare-first (head_check b) _ (bare-head b) ns f

  pub contents-passed : contents_check b ≡ passed
  unfolding image_check
  contents-passed = bare-first (contents_check b) _ (bare-contents b) ns (then-second (head_check b) _ ns f)

pub bodies-passed : (b : List ℕ) → image_check b ≡ passed → bodies_check b ≡ passed
unfolding image_check
bodies-passed b f = then-second (contents_check b) _ [] (then-second (head_check b) _ [] f)

pub entries-facts : (fmt size next least l : ℕ) (e : Entry) (es : List Entry) → entries_check fmt size next least l (e ∷ es) ≡ passed
    → EntryFacts fmt size next least e × (entries_check fmt size (next + rule_size fmt * e.count) (e.id + 1) (l + 1) es ≡ passed)
unfolding entries_check
entries-facts fmt size next least l e es f = (
  entry-facts fmt size next least l e (bare-first (entry_check fmt size next least l e) _ (bare-entry fmt size next least l e) [] f),
  then-second (entry_check fmt size next least l e) _ [] f,
)

pub lists-facts : (w l : ℕ) (x : Named) (xs : List Named) → lists_check w l (x ∷ xs) ≡ passed → All (Valid w) x.rules × (lists_check w (l + 1) xs ≡ passed)
unfolding lists_check
lists-facts w l x xs f = (
  rules-valid w l 1 x.rules (bare-first (rules_check w l 1 x.rules) _ (bare-rules w l 1 x.rules) [] f),
  then-second (rules_check w l 1 x.rules) _ [] f,
)
