use Rattle.std.proofs.Common.{◌≡◌, rules}
use Rattle.rules.specs.Replies.{passed}
use Rattle.rules.specs.Checks.{widest}
use Rattle.swaps.specs.SwapCalls.{check_swap}
use Rattle.swaps.proofs.SwapCallLaws.{swap-whole}
use Rattle.swaps.proofs.swaps.Swap.invert.Goals as goal

pub inverse_places-requires : goal.inverse_places-requires
inverse_places-requires c =
    let e : check_swap widest c.args.self ≡ passed = search rules in
    let g = swap-whole widest c.args.self e in (g.most, g.places)
