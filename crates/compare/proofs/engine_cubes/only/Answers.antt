use Prim.Native.Nat.{◌<◌}
use Rattle.words.proofs.Tests.{eqb_yes}
use Rattle.compare.specs.EngineSets.{count_in}
use Rattle.compare.proofs.EngineRules.{next-in}
use Rattle.compare.proofs.EngineLockstep.{through-more, through-cover, only-miss}
use native.Mathlib.Omega.{arith}
use Rattle.compare.proofs.engine_cubes.only.Goals as goal

pub returns-then-rule_spans : goal.returns-then-rule_spans
returns-then-rule_spans c = λ e. let l : c.loop-t.t.at < count_in c.args.side.now = omega (arith, c.loop-t-test.true, c.requires.0.decisions) in
    let L = c.loop-t in
    through-cover _ _ _ _ _ _ _ _ _ L.t.at L.invariant.0 c.requires.0 c.requires.1 (L.invariant.2 l) l c.if-side-i.false (c.rule_spans.ensures.0 c.if-rule_spans.true)

pub loop-t-preserved : goal.loop-t-preserved
loop-t-preserved c = let l : c.loop-t.t.at < count_in c.args.side.now = omega (arith, c.loop-t-test.true, c.requires.0.decisions) in
    let L = c.loop-t in
    let E = next-in c.requires.0.decisions c.next-t.ensures in
    (through-more _ _ _ _ _ _ _ _ _ L.t.at _ L.invariant.0 l c.if-side-i.false E.0.after E.0.few E.0.none, E.0.few, E.0.found, E.1)

pub returns : goal.returns
returns c = λ e. c.loop-t.invariant.0 (only-miss _ _ _ _ _ _ _ _ c.loop-t.t.at (omega (arith, c.loop-t.invariant.1, c.loop-t-test.false, c.requires.0.decisions)) (eqb_yes _ _ e))
