use mathlib.Core.Path.{sym, ap, ◌∙◌}
use native.Mathlib.Omega.{arith}
use lib.Bits.{bit_or}
use mathlib.Core.Bool.{not}
use Rattle.words.specs.Words.{without}
use Rattle.words.specs.Halves.{num, halves}
use Rattle.words.proofs.Tests.{eqb_yes}
use Rattle.words.proofs.WordLaws.{holds}
use Rattle.swaps.proofs.ReturnLaws.{Top, top, of_one, word_held, without-less, return-none, place_in, return-more, return-all}
use Rattle.swaps.proofs.swaps.Swap.returned_word.Goals as goal
use Rattle.swaps.proofs.swaps.Swap.returned_word.Goals.{After-leading_zeros-weight}

-- At each turn the highest bit that is left has been found.
found : (c : After-leading_zeros-weight) → Top 128 c.args.self.now.width (num c.loop-left.left) c.leading_zeros-weight.result
found c = top 128 _ _ c.requires.0 c.loop-left.invariant.1.rest c.is_zero.ensures (ap not c.loop-left-test.true) c.leading_zeros-weight.ensures

pub loop-left-init : goal.loop-left-init
loop-left-init c = (word_held _ c.from-out.ensures, rw (holds c.from-out.ensures) (return-none _ _ _ c.requires.2))

pub overflow_sub-weight : goal.overflow_sub-weight
overflow_sub-weight c =
    let t = found (goal.at.overflow_sub-weight c).After-leading_zeros-weight in
    omega arith

pub overflow_sub-self-in-loop-left : goal.overflow_sub-self-in-loop-left
overflow_sub-self-in-loop-left c =
    let t = found (goal.at.overflow_sub-self-in-loop-left c).After-leading_zeros-weight in
    omega arith

pub overflow_sub-self-in-loop-left-2 : goal.overflow_sub-self-in-loop-left-2
overflow_sub-self-in-loop-left-2 c =
    let t = found (goal.at.overflow_sub-self-in-loop-left-2 c).After-leading_zeros-weight in
    omega (arith, place_in _ _ _ c.requires.0 c.requires.1 _ t.inside)

pub loop-left-smaller : goal.loop-left-smaller
loop-left-smaller c =
    let t = found (goal.at.loop-left-smaller c).After-leading_zeros-weight in
    rw (of_one (without _) _ (omega arith) c.single-in-loop-left.ensures c.without-left.ensures) (without-less _ _ t.set)

pub loop-left-preserved : goal.loop-left-preserved
loop-left-preserved c =
    let t = found (goal.at.loop-left-preserved c).After-leading_zeros-weight in
    let l = c.loop-left in
    let h = place_in _ _ _ c.requires.0 c.requires.1 _ t.inside in
    let o = of_one (bit_or (num l.out)) _ (omega arith) c.single.ensures c.bitor-out.ensures in
    let n = of_one (without (num l.left)) _ (omega arith) c.single-in-loop-left.ensures c.without-left.ensures in (
      word_held _ c.bitor-out.ensures,
      rw (o, n, c.from-place.ensures) (return-more _ _ _ c.requires.0 c.requires.1 _ _ _ _ t.inside t.set l.invariant.1),
    )

pub returns : goal.returns
returns c =
    let l = c.loop-left in
    l.invariant.0 ∙ ap halves (return-all _ _ _ c.requires.0 c.requires.1 _ _ _ (eqb_yes _ _ (sym c.is_zero.ensures ∙ c.loop-left-test.false)) l.invariant.1)
