use mathlib.Core.Path.{refl}
use Rattle.words.specs.Halves.{num}
use Rattle.words.proofs.WordLaws.{holds, num-lt}
use Rattle.compare.proofs.EngineNumbers.{lowest-told}
use Rattle.compare.proofs.EngineBlocks.{block-few}
use Rattle.compare.proofs.SweepPlaces.{few-places, parted-one, parted-two}
use native.Mathlib.Omega.{arith}
use Rattle.compare.proofs.blocks.parts_of.Goals as goal

pub returns-then-t-k : goal.returns-then-t-k
returns-then-t-k c = (
  refl,
  λ u v S. parted-one (num c.args.base) c.args.k (num c.args.h) (num c.args.places) c.requires.0 c.requires.2 c.requires.3 _ _ c.above.ensures c.if-t-k.true
      (few-places (num c.args.places) _ _ _ _ c.args.k (lowest-told c.args.k (block-few (num c.args.base) c.args.k c.requires.0) c.lowest.ensures) (holds c.bitand.ensures) (num-lt _ (omega arith) (omega arith)) c.leading_zeros-t.ensures refl)
      _ refl (holds c.bitand-at.ensures) (holds c.bitand-at.ensures) u v S,
)

pub returns : goal.returns
returns c = (refl, λ u v S. parted-two (num c.args.base) c.args.k (num c.args.h) (num c.args.places) c.requires.0 c.requires.2 c.requires.3 c.requires.1 _ refl refl c.after.ensures u v)
