use native.Mathlib.Omega.{arith}
use mathlib.Core.Path.{sym, ◌∙◌}
use Rattle.words.proofs.Tests.{eqb_yes}
use Rattle.plain_compare.proofs.ListingLaws.{told-by-new}
use Rattle.plain_compare.proofs.listing.joins.Goals as goal
use Rattle.plain_compare.proofs.listing.joins.Goals.{then-count-gt0, else-count-gt0, then-h-gt0, else-h-gt0, then-eq, else-eq}

pub returns-then-old_answer-count : goal.returns-then-old_answer-count
returns-then-old_answer-count c =
    elim c.if-eq.branch [
      | then-eq w ↦ elim c.if-h-gt0.branch [
        | then-h-gt0 v ↦ told-by-new _ _ _ _ _ _ _ (omega arith) v.eq.ensures v.word_at.ensures v.from.ensures (sym v.value-is ∙ w.if-eq.true) (omega arith) (eqb_yes _ _ (sym w.value-is ∙ c.if-old_answer-count.true))
        | else-h-gt0 v ↦ absurd (grind (arith, c.if-count-gt0.branch))
      ]
      | else-eq w ↦ absurd cc
    ]
