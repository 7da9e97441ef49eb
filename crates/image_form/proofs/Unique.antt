-- Each call's promise leaves no second result: two results that both meet it are equal.
use mathlib.Core.Path.{◌≡◌, sym, ◌∙◌}
use mathlib.Core.List.{List}
use Prim.Native.Nat.{ℕ, ◌<◌}
use lib.ListN.{get_or}
use Rattle.rules.specs.declared.Rule.{Rule as Held}
use Rattle.rules.specs.Rule.{held}
use Rattle.image_form.specs.declared.FormatLayout.{FormatLayout}
use Rattle.image_form.specs.declared.Entry.{Entry}
use Rattle.image_form.specs.Formats.{layout_of}
use Rattle.image_form.specs.Parts.{EntryRead, rule_from}

-- layout
pub layout-once : (f : ℕ) (x y : FormatLayout) → x ≡ layout_of f → y ≡ layout_of f → x ≡ y
layout-once f x y p q = p ∙ sym q

module _ (b : List ℕ) (at : ℕ) where
  -- byte_at
  pub byte-at-once : (x y : ℕ) → (x ≡ get_or b at 0) × (x < 256) → (y ≡ get_or b at 0) × (y < 256) → x ≡ y
  byte-at-once x y p q = p.0 ∙ sym q.0

  -- entry_in
  pub entry-in-once : (x y : Entry) → EntryRead b at x → EntryRead b at y → x ≡ y
  entry-in-once x y p q = p.is ∙ sym q.is

  -- rule_in
  pub rule-in-once : (f : ℕ) (x y : Held) → x ≡ held (rule_from f at b) → y ≡ held (rule_from f at b) → x ≡ y
  rule-in-once f x y p q = p ∙ sym q
