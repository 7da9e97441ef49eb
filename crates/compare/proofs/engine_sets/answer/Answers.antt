use Prim.Native.Nat.{◌+◌, ◌<◌}
use mathlib.Core.Path.{sym, ◌∙◌}
use Rattle.compare.specs.EngineSets.{count_in}
use Rattle.compare.proofs.EngineFirst.{rest_end, rest-pass, rest-take}
use Rattle.compare.proofs.EngineRules.{hit-yes, hit-no, answer-rest, rest_live, next-in}
use native.Mathlib.Omega.{arith}
use Rattle.compare.proofs.engine_sets.answer.Goals as goal

pub loop-s-init : goal.loop-s-init
loop-s-init c = let E = next-in c.requires.decisions c.next-s.ensures in
    (E.0.few, answer-rest _ _ _ _ _ _ ∙ rest_live _ _ _ _ _ _ 0 _ E.0.after E.0.few E.0.none, E.0.found, E.1)

pub returns-then-rule_hits : goal.returns-then-rule_hits
returns-then-rule_hits c = let l : c.loop-s.s.at < count_in c.args.side.now = omega (arith, c.loop-s-test.true, c.requires.decisions) in
    let L = c.loop-s in
    sym (L.invariant.1 ∙ rest-take _ _ _ _ L.s.at l (hit-yes _ _ _ _ L.s.at (L.invariant.2 l) (c.rule_hits.ensures.0 c.if-rule_hits.true)))

pub loop-s-preserved : goal.loop-s-preserved
loop-s-preserved c = let l : c.loop-s.s.at < count_in c.args.side.now = omega (arith, c.loop-s-test.true, c.requires.decisions) in
    let L = c.loop-s in
    let E = next-in c.requires.decisions c.next-s-in-loop-s.ensures in
    (E.0.few, L.invariant.1 ∙ rest-pass _ _ _ _ L.s.at l (hit-no _ _ _ _ _ (c.rule_hits.ensures.1 c.if-rule_hits.false)) ∙ rest_live _ _ _ _ _ _ (L.s.at + 1) _ E.0.after E.0.few E.0.none, E.0.found, E.1)

pub returns : goal.returns
returns c = sym (c.loop-s.invariant.1 ∙ rest_end _ _ _ _ _ (omega (arith, c.loop-s-test.false, c.requires.decisions)))
