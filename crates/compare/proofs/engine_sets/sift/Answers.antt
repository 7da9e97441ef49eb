use Prim.Native.Nat.{◌+◌, ◌*◌, ◌<◌}
use mathlib.Core.Path.{sym}
use mathlib.Core.Bool.{false≢true}
use lib.Count.{count_trailing_zeros}
use lib.ListN.{length}
use Rattle.words.specs.Halves.{num}
use Rattle.words.specs.Slices.{words_of}
use Rattle.words.proofs.SliceLaws.{words-length}
use Rattle.compare.specs.EngineSets.{put, Kept}
use Rattle.compare.proofs.EngineRules.{kept-skip, add-in, drop-apart, kept-cut}
use Rattle.compare.proofs.EngineWords.{whole_word, left_end, found, found_after, found_none, found_left, some-place, fewer}
use Rattle.compare.proofs.EngineSieve.{more_of, sift-start, sift-none, sift_on}
use native.Mathlib.Omega.{arith}
use Rattle.compare.proofs.engine_sets.sift.Goals as goal
use Rattle.compare.proofs.engine_sets.sift.Goals.{Else-i-n, then-rule_meets+else-rule_spans, else-rule_meets}

-- Of a rule that the test lets through: it is in the list,
inside : (c : Else-i-n) → c.args.w * 64 + count_trailing_zeros 64 c.loop-x.x < length (words_of c.args.care.now)
inside c = omega (arith, c.if-i-n.false, words-length c.args.care.now)

-- and of the rules before it those are kept that meet the cube.
kept-before : (c : Else-i-n) → let a = c.args in let i = a.w * 64 + count_trailing_zeros 64 c.loop-x.x in
    Kept (words_of a.care.now) (words_of a.value.now) a.live.now (put a.out.now a.w c.loop-x.keep) (num a.cube.care) (num a.cube.value) i
kept-before c = let I = c.loop-x.invariant in
    let u = some-place c.loop-x.x (omega arith) c.loop-x-test.true in
    kept-skip _ _ _ _ _ I.0 _ _ I.1 (found_after _ _ _ _ I.2 u) (omega (arith, inside c)) (found_none _ _ _ _ I.2 u)

pub loop-x-init : goal.loop-x-init
loop-x-init c = let p = c.requires in
    let w : c.args.w < 16 = omega (arith, p.0, p.3) in
    (c.args.w * 64, sift-start _ _ _ _ _ _ _ w p.5, whole_word _ _ w p.4)

pub returns-then-i-n : goal.returns-then-i-n
returns-then-i-n c = let I = c.loop-x.invariant in
    let u = some-place c.loop-x.x (omega arith) c.loop-x-test.true in
    (λ e. sift-none _ _ _ _ _ _ _ I.1 (c.args.w * 64 + count_trailing_zeros 64 c.loop-x.x) (omega (arith, c.if-i-n.true, words-length c.args.care.now)) (found_none _ _ _ _ I.2 u), λ e. absurd (false≢true (sym e)))

pub rule_meets-requires : goal.rule_meets-requires
rule_meets-requires c = let l = inside (goal.at.rule_meets-requires c).Else-i-n in (l, omega (arith, l, c.requires.1))

pub rule_spans-requires : goal.rule_spans-requires
rule_spans-requires c = inside (goal.at.rule_spans-requires c).Else-i-n

pub returns-then-rule_spans : goal.returns-then-rule_spans
returns-then-rule_spans c = let a = c.args in
    let L = c.loop-x in
    let p = c.requires in
    let E = (goal.at.returns-then-rule_spans c).Else-i-n in
    let u = some-place L.x (omega arith) c.loop-x-test.true in
    let m = found _ _ _ _ L.invariant.2 u in
    let more = more_of a.out.now a.w p.5.sized (omega (arith, p.0, p.3)) L.keep (count_trailing_zeros 64 L.x) u in
    let q = c.rule_meets.ensures.0 c.if-rule_meets.true in
    (λ e. kept-cut _ _ _ _ _ _ (a.w * 64 + count_trailing_zeros 64 L.x) (add-in _ _ _ _ _ (a.w * 64 + count_trailing_zeros 64 L.x) (put a.out.now a.w L.keep) _ (kept-before E) (inside E) m q more) p.2 m q (c.rule_spans.ensures.0 c.if-rule_spans.true), λ e. absurd (false≢true (sym e)))

pub loop-x-smaller : goal.loop-x-smaller
loop-x-smaller c = fewer c.loop-x.x c.loop-x-test.true

pub loop-x-preserved : goal.loop-x-preserved
loop-x-preserved c = let a = c.args in
    let L = c.loop-x in
    let p = c.requires in
    let E = (goal.at.loop-x-preserved c).Else-i-n in
    let u = some-place L.x (omega arith) c.loop-x-test.true in
    let m = found _ _ _ _ L.invariant.2 u in
    let more = more_of a.out.now a.w p.5.sized (omega (arith, p.0, p.3)) L.keep (count_trailing_zeros 64 L.x) u in (
      a.w * 64 + count_trailing_zeros 64 L.x + 1,
      (elim c.if-rule_meets.branch [
        | then-rule_meets+else-rule_spans v ↦
            rw v.keep-is (add-in _ _ _ _ _ (a.w * 64 + count_trailing_zeros 64 L.x) (put a.out.now a.w L.keep) _ (kept-before E) (inside E) m (c.rule_meets.ensures.0 v.if-rule_meets.true) more)
        | else-rule_meets v ↦
            rw v.keep-is (drop-apart _ _ _ _ _ (a.w * 64 + count_trailing_zeros 64 L.x) (put a.out.now a.w L.keep) (kept-before E) (inside E) (c.rule_meets.ensures.1 v.if-rule_meets.false))
      ]),
      found_left _ _ _ _ L.invariant.2 u,
    )

pub returns : goal.returns
returns c = let I = c.loop-x.invariant in
    (λ e. absurd (false≢true e), λ e. sift_on _ _ _ _ _ _ _ I.1 (c.args.w * 64 + 64) I.2.high (left_end _ _ _ _ I.2 c.loop-x-test.false))
