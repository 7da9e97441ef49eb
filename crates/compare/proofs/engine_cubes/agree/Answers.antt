use Prim.Native.Nat.{◌<◌}
use Rattle.compare.specs.EngineSets.{count_in}
use Rattle.compare.proofs.EngineRules.{next-spotted}
use Rattle.compare.proofs.EngineLockstep.{step_start, step_skip, step-more, step-cover, step-rest}
use native.Mathlib.Omega.{arith}
use Rattle.compare.proofs.engine_cubes.agree.Goals as goal

pub loop-cube-init : goal.loop-cube-init
loop-cube-init c = let N = next-spotted c.requires.0.decisions c.next-s.ensures in
    let M = next-spotted c.requires.1.decisions c.next-t.ensures in
    (step_skip _ _ _ _ _ _ _ _ _ _ _ _ 0 0 _ _ (step_start _ _ _ _ _ _ _ _ _ _ _ _) N.0 M.0, N.1, M.1)

pub returns-then-rule_spans : goal.returns-then-rule_spans
returns-then-rule_spans c = λ e.
    let E = c.same_rest.ensures c.loop-cube-test.true in
    let l : c.loop-cube.s.at < count_in c.args.old.now = omega (arith, E.0, c.requires.0.decisions) in
    let r : c.loop-cube.t.at < count_in c.args.new.now = omega (arith, E.1, c.requires.1.decisions) in
    step-cover _ _ _ _ _ _ _ _ _ _ _ _ _ _ c.requires.0 c.requires.1 c.requires.2 c.requires.3
    (c.loop-cube.invariant.1.found l) (c.loop-cube.invariant.2.found r) E.3.0 E.3.1
    c.loop-cube.invariant.0 l r E.2 (c.rule_spans.ensures.0 c.if-rule_spans.true)

pub loop-cube-preserved : goal.loop-cube-preserved
loop-cube-preserved c = let E = c.same_rest.ensures c.loop-cube-test.true in
    let l : c.loop-cube.s.at < count_in c.args.old.now = omega (arith, E.0, c.requires.0.decisions) in
    let r : c.loop-cube.t.at < count_in c.args.new.now = omega (arith, E.1, c.requires.1.decisions) in
    let N = next-spotted c.requires.0.decisions c.next-s-in-loop-cube.ensures in
    let M = next-spotted c.requires.1.decisions c.next-t-in-loop-cube.ensures in
    let S = step-more _ _ _ _ _ _ _ _ _ _ _ _ _ _ c.requires.0 c.requires.1 c.requires.2 c.requires.3
    (c.loop-cube.invariant.1.found l) (c.loop-cube.invariant.2.found r) E.3.0 E.3.1 c.loop-cube.invariant.0 l r E.2 in
    (step_skip _ _ _ _ _ _ _ _ _ _ _ _ _ _ _ _ S N.0 M.0, N.1, M.1)

pub returns : goal.returns
returns c = λ e. step-rest _ _ _ _ _ _ _ _ _ _ _ _ _ _ c.loop-cube.invariant.0 (c.left_over.ensures e)
