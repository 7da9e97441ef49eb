use mathlib.Core.Path.{◌∙◌}
use mathlib.Core.List.{[], ◌∷◌}
use lib.ListN.{length}
use lib.Dec.{eqb}
use Rattle.std.proofs.Common.{rules, tests}
use Rattle.std.proofs.lemmas.Iterator.{YieldsList-from_slice}
use Rattle.std.proofs.lemmas.Iterator.Search.{all_from_yields_List}
use Rattle.five_fields.specs.Slices.{rows, lent, alike}
use Rattle.five_fields.proofs.CheckLaws.{each_all}
use Rattle.five_fields.proofs.checks.alike.Goals as goal

pub returns : goal.returns
unfolding alike
returns c = let s = lent c.args.rules in
    let lengths =
    length s.sources ∷ length s.source_lengths ∷ length s.destinations ∷ length s.destination_lengths ∷ length s.source_lows
    ∷ length s.source_highs ∷ length s.destination_lows ∷ length s.destination_highs ∷ length s.protocols ∷ []
    in
    all_from_yields_List (λ m. eqb m (rows s)) _ _ _ c.all.ensures.ran (YieldsList-from_slice lengths cc) (λ x b q k. search (rules, tests)) ∙ each_all (rows s) lengths
