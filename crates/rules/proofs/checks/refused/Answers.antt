use mathlib.Core.Path.{refl}
use Rattle.rules.proofs.checks.refused.Goals as goal

pub returns : goal.returns
returns c = refl
