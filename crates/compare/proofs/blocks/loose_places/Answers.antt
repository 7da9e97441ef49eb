use Rattle.words.specs.Halves.{num, limit}
use Prim.Native.Nat.{◌<◌}
use Rattle.words.proofs.WordLaws.{holds, num-lt}
use Rattle.compare.proofs.EngineNumbers.{all_told}
use Rattle.compare.proofs.SweepPlaces.{settled-all, settled-places}
use native.Mathlib.Omega.{arith}
use Rattle.compare.proofs.blocks.loose_places.Goals as goal
use Rattle.compare.proofs.blocks.loose_places.Goals.{Start}

h-below : (c : Start) → num c.args.h < limit
h-below c = num-lt c.args.h (omega arith) (omega arith)

pub returns-then-old-new : goal.returns-then-old-new
returns-then-old-new c = settled-all _ _ _ (h-below (goal.at.returns-then-old-new c).Start) _ (all_told c.lowest.ensures)

pub returns-then-is_full : goal.returns-then-is_full
returns-then-is_full c = settled-all _ _ _ (h-below (goal.at.returns-then-is_full c).Start) _ (c.is_full.ensures.0 c.if-is_full.true)

pub returns : goal.returns
returns c = settled-places _ _ _ _ _ _ _ _ _ _ _ _ _ _ c.if-old-new.false c.loose-places.ensures c.loose.ensures (holds c.bitor.ensures)
