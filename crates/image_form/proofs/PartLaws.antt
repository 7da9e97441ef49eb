-- An entry or a rule at a place of the bytes, where there are enough bytes for it and where there are not.
use mathlib.Core.Path.{◌≡◌, sym, ap, ◌∙◌}
use mathlib.Core.Bool.{Bool}
use mathlib.Core.List.{List}
use Prim.Native.Nat.{ℕ, ◌+◌, ◌^◌, ◌≤◌, ◌<◌}
use native.Mathlib.Omega.{arith}
use lib.ListN.{length, drop}
use borrow.Author.Tests.{le-leb, lt-leb}
use Rattle.words.specs.Halves.{word}
use Rattle.words.specs.declared.Word.{Word}
use Rattle.words.proofs.WordLaws.{halves-zero}
use Rattle.rules.specs.declared.Rule.{Rule as Held}
use Rattle.rules.specs.Rule.{held}
use Rattle.rules.specs.Slices.{blank}
use Rattle.image_form.specs.declared.Entry.{Entry}
use Rattle.image_form.specs.Bytes.{number_in, part}
use Rattle.image_form.specs.Formats.{rule_size}
use Rattle.image_form.specs.Images.{entry_with, entry_in, rule_in}
use Rattle.image_form.specs.Parts.{pick_entry, pick_rule, entry_from, rule_from, EntryRead}
use Rattle.image_form.proofs.NumberLaws.{length_part, num-within, rule-within}

module _ (p : ℕ) (s : List ℕ) where
  pub entry-there : p + 8 ≤ length s → entry_from p s ≡ entry_in (drop p s)
  unfolding entry_from
  entry-there h = ap (λ (t : Bool). pick_entry t (entry_in (drop p s)) (entry_with 0 0 0)) (le-leb _ _ h)

  pub entry-none : length s < p + 8 → entry_from p s ≡ entry_with 0 0 0
  unfolding entry_from
  entry-none h = ap (λ (t : Bool). pick_entry t (entry_in (drop p s)) (entry_with 0 0 0)) (lt-leb _ _ h)

  -- the entry of zeros is read where there are not 8 bytes
  pub entry-zeros : (e : Entry) → (e.offset ≡ 0) × ((e.count ≡ 0) × (e.id ≡ 0)) → length s < p + 8 → EntryRead s p e
  entry-zeros e z h = record {
    is = (λ j. entry_with (z.0 j) (z.1.0 j) (z.1.1 j)) ∙ sym (entry-none h);
    offset = omega arith;
    count = omega arith;
    id = omega arith;
  }

  -- the three numbers in the 8 bytes from byte p on are the entry there
  module _ (t : List ℕ) (h : p + 8 ≤ length s) (e : t ≡ part 8 p s) where
    whole : length t ≡ 8
    whole = ap length e ∙ length_part 8 p s h

    here : (n q : ℕ) → q + n ≤ 8 → number_in n q t ≡ number_in n q (drop p s)
    here n q f = ap (number_in n q) e ∙ num-within n q 8 (drop p s) f

    pub entry-made : (o n i : ℕ) → (o ≡ number_in 4 0 t) × (o < 256 ^ length (part 4 0 t)) → (n ≡ number_in 2 4 t) × (n < 256 ^ length (part 2 4 t))
        → (i ≡ number_in 2 6 t) × (i < 256 ^ length (part 2 6 t)) → EntryRead s p (entry_with o n i)
    entry-made o n i x y z = record {
      is = (λ j. entry_with ((x.0 ∙ here 4 0 (omega arith)) j) ((y.0 ∙ here 2 4 (omega arith)) j) ((z.0 ∙ here 2 6 (omega arith)) j)) ∙ sym (entry-there h);
      offset = rw (length_part 4 0 t (omega (arith, whole))) at x.1;
      count = rw (length_part 2 4 t (omega (arith, whole))) at y.1;
      id = rw (length_part 2 6 t (omega (arith, whole))) at z.1;
    }

  -- an entry that was read where there are 8 bytes is the one in them
  pub entry-got : (e : Entry) → EntryRead s p e → p + 8 ≤ length s → e ≡ entry_in (drop p s)
  entry-got e r h = r.is ∙ entry-there h

  module _ (f : ℕ) where
    pub rule-there : p + rule_size f ≤ length s → rule_from f p s ≡ rule_in f (drop p s)
    unfolding rule_from
    rule-there h = ap (λ (t : Bool). pick_rule t (rule_in f (drop p s)) blank) (le-leb _ _ h)

    pub rule-none : length s < p + rule_size f → rule_from f p s ≡ blank
    unfolding rule_from
    rule-none h = ap (λ (t : Bool). pick_rule t (rule_in f (drop p s)) blank) (lt-leb _ _ h)

    -- the rule in as many bytes as it takes is the one in those from byte p on
    pub rule-made : (t : List ℕ) (r : Held) (size : ℕ) → size ≡ rule_size f → p + size ≤ length s → t ≡ part size p s → r ≡ held (rule_in f t) → r ≡ held (rule_from f p s)
    rule-made t r size e h q x =
        x ∙ ap held (ap (rule_in f) q ∙ rule-within f size (drop p s) (omega arith) ∙ sym (rule-there (omega arith)))

    -- a rule that was read where there are bytes for it is the one in them
    pub rule-got : (r : Held) → r ≡ held (rule_from f p s) → p + rule_size f ≤ length s → r ≡ held (rule_in f (drop p s))
    rule-got r e h = e ∙ ap held (rule-there h)

    -- the code's rule of zeros is read where there are not
    pub rule-zeros : length s < p + rule_size f → ◌≡◌ {A = Held} (record { care = word 0 0; value = word 0 0; decision = 0 }) (held (rule_from f p s))
    rule-zeros h = ap (λ (a : Word). record { care = a; value = a; decision = 0 }) halves-zero ∙ ap held (sym (rule-none h))
