use mathlib.Core.Path.{refl}
use native.Mathlib.Omega.{arith}
use borrow.Author.Rules.{rules}
use Rattle.rules.specs.Slices.{Lent}
use Rattle.rules.proofs.SliceLaws.{told, kept-lent, rules-length, placed-rules, placed-kept}
use Rattle.removal.proofs.RemoveLaws.{shifted_none, shifted-put}
use Rattle.removal.proofs.removing.move_down.Goals as goal

pub loop-k-init : goal.loop-k-init
loop-k-init c = (record { cares = refl; values = refl; decisions = refl }, shifted_none _ _)

pub loop-k-preserved : goal.loop-k-preserved
loop-k-preserved c = let o = c.loop-k in
    let lent : Lent o.care o.value o.decision = kept-lent _ _ _ _ _ _ o.invariant.0 c.requires.lent in
    let kept = placed-kept _ _ _ _ _ _ _ _ c.put_rule.ensures in (
      record { cares = omega (arith, kept.cares, o.invariant.0.cares); values = omega (arith, kept.values, o.invariant.0.values); decisions = omega (arith, kept.decisions, o.invariant.0.decisions) },
      shifted-put _ _ _ _ _ _ (search rules) (omega (arith, rules-length _ _ _ lent))
          (omega (arith, rules-length _ _ _ lent, rules-length _ _ _ c.requires.lent)) o.invariant.1 (told c.rule_at-r.ensures)
          (placed-rules _ _ _ _ _ _ _ _ c.put_rule.ensures),
    )
