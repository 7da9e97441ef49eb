use Rattle.std.proofs.Common.{ℕ, ◌≡◌, arith, ap, ◌∙◌, take}
use Rattle.std.proofs.lemmas.Grind.{common_steps}
use lib.Dec.{eqb}
use Rattle.std.specs.List.{count_by}
use Rattle.swaps.proofs.SwapSteps.{times_count}
use Rattle.swaps.proofs.swaps.Swap.times_of.Goals as goal

pub returns : goal.returns
returns c =
    let s = c.args.self.now in
    let e : c.loop-p.p-index ≡ s.width = grind (arith, common_steps) in
    c.loop-p.invariant ∙ ap (λ (k : ℕ). count_by (λ x. eqb x c.args.place) (take k s.places)) e ∙ times_count s.width s.places c.args.place (omega arith)
