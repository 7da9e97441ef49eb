use Rattle.text.proofs.DecimalLaws.{tenth-digits, some-digit, first-put, next-put}
use lib.ListN.{length-set}
use native.Mathlib.Omega.{arith}
use Prim.Native.Nat.{◌/◌}
use mathlib.Core.Path.{◌≡◌, refl, sym, ◌∙◌}
use Rattle.text.proofs.decimal.digits_before.Goals as goal

pub loop-number-init : goal.loop-number-init
loop-number-init c = let r = c.requires in (r.0, r.1, r.3, r.2, refl)

pub loop-number-preserved : goal.loop-number-preserved
loop-number-preserved c = let o = c.loop-number in
    let t = tenth-digits _ o.at o.invariant.3 o.invariant.0 in
    let z : o.number / 10 ≡ 0 → ⊥ = λ e. omega arith in
    (some-digit _ _ t z, omega arith, length-set o.space _ _ ∙ o.invariant.2, t, o.invariant.4 ∙ next-put o.space _ o.at _ (omega arith) o.invariant.0 refl _ refl z)

pub returns : goal.returns
returns c = let o = c.loop-number in (
  omega arith,
  length-set o.space _ _ ∙ o.invariant.2,
  sym (o.invariant.4 ∙ first-put o.space _ o.at _ (omega arith) o.invariant.0 (omega arith) (omega arith)),
)
