use Rattle.std.proofs.Common.{rules, refl, ◌∙◌}
use Rattle.std.proofs.lemmas.Iterator.{YieldsList-from_range}
use Rattle.std.proofs.lemmas.Iterator.Search.{all_from_yields_List}
use borrow.Author.Tests.{tests}
use Rattle.rules.specs.Checks.{widest}
use Rattle.swaps.specs.Swaps.{entry_good, good}
use Rattle.swaps.proofs.SwapSteps.{all-range}
use Rattle.swaps.proofs.swaps.Swap.is_good.Goals as goal

pub returns : goal.returns
unfolding good
returns c =
    let s = c.args.self.now in
    all_from_yields_List (entry_good s.width s.places) _ _ _ c.all.ensures.ran (YieldsList-from_range 0 widest widest refl refl) (λ x b q k. search (rules, tests))
    ∙ all-range widest (entry_good s.width s.places)
