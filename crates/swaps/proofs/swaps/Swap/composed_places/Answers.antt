use Rattle.std.proofs.Common.{List, ℕ, arith, sym, ap, ◌∙◌}
use lib.ListN.{set}
use Rattle.rules.specs.Checks.{widest}
use Rattle.swaps.proofs.SwapLaws.{good-perm}
use Rattle.swaps.proofs.SwapSteps.{filled_none, filled_more, through, composed-is}
use Rattle.swaps.proofs.swaps.Swap.composed_places.Goals as goal

pub loop-i-init : goal.loop-i-init
loop-i-init c = filled_none widest _

pub overflow_sub-out : goal.overflow_sub-out
overflow_sub-out c = (good-perm widest _ _ c.requires.0 c.requires.1).low c.loop-i.i c.loop-i-test.true

pub bounds-self-then : goal.bounds-self-then
bounds-self-then c = omega (arith, (good-perm widest _ _ c.requires.0 c.requires.1).high c.loop-i.i c.loop-i-test.true)

pub loop-i-preserved : goal.loop-i-preserved
loop-i-preserved c =
    let f : ℕ → ℕ = through c.args.self.now.places c.args.then.now.places in
    ap (λ (l : List ℕ). set l c.loop-i.i (f c.loop-i.i)) c.loop-i.invariant ∙ sym (filled_more widest c.loop-i.i f)

pub returns : goal.returns
returns c = c.loop-i.invariant ∙ composed-is widest _ _ _ c.loop-i.i (omega arith)
