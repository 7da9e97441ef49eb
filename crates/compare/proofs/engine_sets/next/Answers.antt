use Rattle.compare.proofs.EngineWords.{sought-none, sought-more, sought-after, sought-before, sought-found, sought-rest, some-place, fewer, not-zero}
use native.Mathlib.Omega.{arith}
use Rattle.compare.proofs.engine_sets.next.Goals as goal

pub returns-then-w-ge16 : goal.returns-then-w-ge16
returns-then-w-ge16 c = let L = c.loop-x in
    let a = c.args in
    let p = c.requires in
    (record { after = omega arith; few = omega arith; none = λ k l u. sought-none _ _ _ _ _ L.invariant c.loop-x-test.true 16 (omega arith) k l (omega arith); found = λ l. absurd (let f : ⊥ = omega arith in f) }, λ l. absurd (let f : ⊥ = omega arith in f))

pub overflow_sub-rest : goal.overflow_sub-rest
overflow_sub-rest c = let ne = not-zero c.loop-x.rest (omega arith) in omega arith

pub loop-x-smaller : goal.loop-x-smaller
loop-x-smaller c = fewer c.loop-x.rest (not-zero c.loop-x.rest (omega arith))

pub loop-x-preserved : goal.loop-x-preserved
loop-x-preserved c = let L = c.loop-x in
    sought-more _ _ _ _ _ L.invariant c.loop-x-test.true (omega arith)

pub returns-then-i-n : goal.returns-then-i-n
returns-then-i-n c = let L = c.loop-x in
    let ne = c.loop-x-test.false in
    let l = some-place L.x (omega arith) ne in
    (record { after = sought-after _ _ _ _ _ L.invariant ne l; few = omega arith; none = sought-before _ _ _ _ _ L.invariant ne l; found = λ u. sought-found _ _ _ _ _ L.invariant ne l }, λ u. sought-rest _ _ _ _ _ L.invariant ne l)

pub returns : goal.returns
returns c = let L = c.loop-x in
    let ne = c.loop-x-test.false in
    let l = some-place L.x (omega arith) ne in
    (record { after = omega arith; few = omega arith; none = λ k a b. sought-before _ _ _ _ _ L.invariant ne l k a (omega arith); found = λ l. absurd (let f : ⊥ = omega arith in f) }, λ l. absurd (let f : ⊥ = omega arith in f))
