use Prim.Native.Nat.{◌*◌, ◌<◌}
use lib.Count.{count_trailing_zeros}
use Rattle.compare.specs.EngineSets.{count_in}
use Rattle.compare.proofs.EngineSieve.{sieve-end, sieve-past, sieve-word, sieve-there, sieve-on, like-narrowed, like-kept}
use native.Mathlib.Omega.{arith}
use Rattle.compare.proofs.engine_sets.narrow.Goals as goal
use Rattle.compare.proofs.engine_sets.narrow.Goals.{Else-w-n}

-- A group of 64 rules that the test lets through begins at one of the rules.
inside : (c : Else-w-n) → count_trailing_zeros 64 c.loop-some.some * 64 < count_in c.args.side.now
inside c = omega (arith, c.if-w-n.false, c.requires.0.decisions)

pub returns-then-w-n : goal.returns-then-w-n
returns-then-w-n c = sieve-past _ _ _ _ _ _ _ c.loop-some.invariant (omega (arith, c.if-w-n.true, c.requires.0.decisions))

pub sift-p-requires : goal.sift-p-requires
sift-p-requires c =
    let p = c.requires in
    let L = c.loop-some in
    let l = inside (goal.at.sift-p-requires c).Else-w-n in
    let S = L.invariant in
    (p.0.few, p.0.values, p.0.within, l, sieve-there _ _ _ _ _ _ _ S l p.0.few, sieve-word _ _ _ _ _ _ _ S l p.0.few)

pub put_word-requires : goal.put_word-requires
put_word-requires c =
    let p = c.requires in
    let L = c.loop-some in
    let l = inside (goal.at.put_word-requires c).Else-w-n in
    let S = L.invariant in
    let K = sieve-word _ _ _ _ _ _ _ S l p.0.few in
    (K.sized, omega (arith, p.0.few, l), K.above)

pub returns-then-p : goal.returns-then-p
returns-then-p c = like-narrowed _ _ _ _ c.put_word.ensures.1 _ _ _ (c.sift-p.ensures.0 c.if-p.true)

pub loop-some-preserved : goal.loop-some-preserved
loop-some-preserved c =
    let p = c.requires in
    let L = c.loop-some in
    let l = inside (goal.at.loop-some-preserved c).Else-w-n in
    let S = L.invariant in
    let E = c.put_word.ensures in
    sieve-on _ _ _ _ _ _ _ S l p.0.few _ (like-kept _ _ _ _ E.1 _ _ _ _ E.0 (c.sift-p.ensures.1 c.if-p.false))

pub returns : goal.returns
returns c = sieve-end _ _ _ _ _ _ _ c.loop-some.invariant c.loop-some-test.false
