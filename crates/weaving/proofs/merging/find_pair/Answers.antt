use Rattle.std.specs.declared.ops.Range.{Range}
use Rattle.rules.specs.Slices.{rules_in}
use mathlib.Core.Path.{◌≡◌, refl, sym, ap, ◌∙◌, subst}
use Prim.Native.Nat.{ℕ}
use native.Mathlib.Omega.{arith}
use Rattle.rules.specs.Rules.{mergeable}
use Rattle.weaving.specs.Inner.{NoRow, Apart}
use Rattle.weaving.proofs.ChunkLaws.{test-read}
use Rattle.weaving.proofs.PairLaws.{row-start, row-stop, row_more, rows_more}
use Rattle.weaving.proofs.merging.find_pair.Goals as goal

pub loop-j-init : goal.loop-j-init
loop-j-init c = let u = c.untried-j-items.ensures in
    let e = c.into_iter-j-iterator.ensures.into_iter_gives in
    record { end = refl; later = rw e u.later; order = rw e u.order; row = rw e (row-start _ _ _ _ _ _ _ _ c.loop-i.auto.i c.requires.tried u) }

pub returns-then-mergeable : goal.returns-then-mergeable
returns-then-mergeable c = let o = c.loop-j.invariant in
    let s = c.in-Some.ensures.steps in
    let e = o.end ∙ ap (λ (r : Range ℕ). r.end) c.into_iter-j-iterator.ensures.into_iter_gives in
    record {
      start = c.loop-i.auto.i;
      later = omega (arith, s.1.1, o.later);
      inside = omega (arith, s.1.0, s.1.1, e, c.untried-j-items.ensures.inside);
      rows = c.loop-i.invariant;
      row = subst (NoRow _ _) (sym s.1.1) o.row;
      yes = sym (test-read mergeable _ _ c.rule_at-a.ensures c.rule_at.ensures c.mergeable.ensures) ∙ c.if-mergeable.true;
    }

pub loop-j-preserved : goal.loop-j-preserved
loop-j-preserved c = let o = c.loop-j.invariant in
    let s = c.in-Some.ensures.steps in
    let rs = rules_in c.args.rules in
    record {
      end = s.0 ∙ o.end;
      later = omega (arith, s.1.2, o.later);
      order = omega (arith, s.0, s.1.0, s.1.2);
      row = subst (NoRow rs c.loop-i.i) (sym s.1.2) (row_more _ _ _ o.row (subst (Apart rs c.loop-i.i) s.1.1 (sym (test-read mergeable _ _ c.rule_at-a.ensures c.rule_at.ensures c.mergeable.ensures) ∙ c.if-mergeable.false)));
    }

pub loop-i-preserved : goal.loop-i-preserved
loop-i-preserved c = let o = c.loop-j.invariant in
    let s = c.in-None.ensures.steps in
    let e = o.end ∙ ap (λ (r : Range ℕ). r.end) c.into_iter-j-iterator.ensures.into_iter_gives in
    let f : c.loop-j.j-iterator.start ≡ c.untried-j-items.result.end = omega (arith, s.1.0, o.order, e) in
    rows_more _ _ _ _ c.loop-i.invariant (row-stop _ _ _ _ _ _ _ _ c.loop-i.auto.i c.requires.tried c.untried-j-items.ensures (subst (NoRow _ _) f o.row))
