use Rattle.std.proofs.Common.{arith, sym, ap, ◌∙◌}
use Rattle.std.proofs.lemmas.Grind.{common_steps}
use Rattle.words.specs.Halves.{num, halves}
use Rattle.swaps.proofs.WordLaws.{word-zero}
use Rattle.swaps.proofs.SwapSteps.{pushed-on, moved-is}
use Rattle.swaps.proofs.swaps.Swap.moved_word.Goals as goal

pub loop-place-init : goal.loop-place-init
loop-place-init c = c.from-out.ensures ∙ ap halves (sym (word-zero _))

pub loop-place-preserved : goal.loop-place-preserved
loop-place-preserved c =
    let s = c.args.self.now in
    let o = c.loop-place in
    pushed-on s.width s.places (num c.args.word) o.place-index _ _ _ (grind (arith, common_steps)) o.invariant (grind (arith, common_steps)) c.pushed-out.ensures

pub returns : goal.returns
returns c =
    let s = c.args.self.now in
    c.loop-place.invariant ∙ ap halves (moved-is s.width s.places (num c.args.word) c.loop-place.place-index (grind (arith, common_steps)))
