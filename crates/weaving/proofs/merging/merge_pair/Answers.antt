use native.Mathlib.Omega.{arith}
use Rattle.rules.proofs.SliceLaws.{told, kept-lent, placed-rules, placed-kept}
use Rattle.weaving.proofs.GapLaws.{closed-removed, closed-pair}
use Rattle.weaving.proofs.merging.merge_pair.Goals as goal

pub returns : goal.returns
returns c = let kept = placed-kept _ _ _ _ _ _ _ _ c.put_rule.ensures in
    closed-pair _ _ _ _ _ _ _ _ _ (told c.rule_at-a.ensures) (told c.rule_at-b.ensures) (told c.merged.ensures)
    (placed-rules _ _ _ _ _ _ _ _ c.put_rule.ensures)
    (closed-removed _ _ _ _ _ _ _ _ (kept-lent _ _ _ _ _ _ kept c.requires.lent) c.requires.i_lt_j.1 (omega (arith, kept.decisions, c.requires.i_lt_j.2)) c.remove_rule.ensures)
