use mathlib.Core.Path.{refl}
use native.Mathlib.Omega.{arith}
use Rattle.pruning.proofs.PassLaws.{pass-start, pass-more}
use Rattle.pruning.proofs.dropping.drop_all.Goals as goal

pub loop-k-init : goal.loop-k-init
loop-k-init c = (pass-start _ _ _ _ _ _ refl c.requires, record { cares = refl; values = refl; decisions = refl })

pub loop-k-preserved : goal.loop-k-preserved
loop-k-preserved c = let o = c.loop-k in
    let d = c.drop_one-left in (
      pass-more _ _ _ _ _ _ _ _ _ _ _ _ _ (omega (arith, c.loop-k-test.true)) o.invariant.0 d.ensures,
      record { cares = omega (arith, d.auto.care, o.invariant.1.cares); values = omega (arith, d.auto.value, o.invariant.1.values); decisions = omega (arith, d.auto.decision, o.invariant.1.decisions) },
    )
