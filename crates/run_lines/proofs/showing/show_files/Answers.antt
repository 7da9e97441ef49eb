-- The comparison starts from the word that holds 0.
use Rattle.std.proofs.Common.{rules}
use Rattle.run_lines.proofs.ShownLaws.{from_zero}
use Rattle.run_lines.proofs.showing.show_files.Goals as goal

pub returns : goal.returns
returns g c =
    record {
      olds = search rules;
      news = search rules;
      shown = from_zero _ _ _ _ _ _ c.from.ensures c.show_first-compared.ensures;
    }
