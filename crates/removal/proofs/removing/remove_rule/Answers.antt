use native.Mathlib.Omega.{arith}
use Rattle.rules.proofs.SliceLaws.{told-blank}
use Rattle.removal.proofs.RemoveLaws.{removed-yes}
use Rattle.removal.proofs.removing.remove_rule.Goals as goal

pub returns-then-removable : goal.returns-then-removable
returns-then-removable c = let m = c.move_down in
    removed-yes _ _ _ _ _ _ _ _ _ _ _ _ _ c.removable.ensures c.if-removable.true
    (record { cares = omega (arith, m.auto.care); values = omega (arith, m.auto.value); decisions = omega (arith, m.auto.decision) })
    m.ensures told-blank c.put_rule.ensures
    (λ i. (c.type_inv.care i).fits) (λ i. (c.type_inv.value i).fits)
