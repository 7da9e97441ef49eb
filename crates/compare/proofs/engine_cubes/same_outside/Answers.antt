use Prim.Native.Nat.{ℕ}
use mathlib.Core.Path.{ap, ◌∙◌}
use lib.Bits.{bit_or}
use Rattle.words.specs.Halves.{num}
use Rattle.words.proofs.WordLaws.{holds}
use Rattle.compare.proofs.EngineNumbers.{says_of}
use Rattle.compare.proofs.engine_cubes.same_outside.Goals as goal

pub returns : goal.returns
returns c = (says_of _ _ c.eq.ensures
    (holds c.bitor.ensures ∙ ap (λ (x : ℕ). bit_or x (num c.args.care)) c.read.ensures)
    (holds c.bitor-2.ensures ∙ ap (λ (x : ℕ). bit_or x (num c.args.care)) c.read-2.ensures)).0
