use Prim.Native.Nat.{ℕ, ◌-◌, ◌^◌, ◌<◌}
use mathlib.Core.Path.{ap, ◌∙◌}
use Rattle.words.specs.Halves.{num, limit}
use Rattle.compare.proofs.SweepSteps.{block-valid, mixed-some, way-piece, way_parts}
use Rattle.compare.proofs.blocks.way_of.Goals as goal
use Rattle.compare.proofs.blocks.way_of.Goals.{In_default}

-- a block of one header is a piece
deeper : (c : In_default) → 0 < c.args.k
deeper c = mixed-some _ _ _ _ _ c.args.cube c.args.k _ c.requires.2 c.requires.3 (c.narrow.ensures.same _ _) (c.narrow-2.ensures.same _ _) c.in_default.ensures

pub shape_of-requires : goal.shape_of-requires
shape_of-requires c = (c.requires.0, c.requires.1, c.narrow.ensures.within, c.narrow-2.ensures.within, block-valid c.args.cube c.args.k c.requires.2, λ e. c.requires.2.care ∙ ap (λ (x : ℕ). limit - 2 ^ x) e)

pub returns-in-Some : goal.returns-in-Some
returns-in-Some c = way-piece _ _ _ _ _ c.args.cube c.args.k _ c.requires.2 c.requires.3 (c.narrow.ensures.same _ _) (c.narrow-2.ensures.same _ _) _ _ c.in-Some.ensures

pub loose_places-places-requires : goal.loose_places-places-requires
loose_places-places-requires c = (c.requires.0, c.requires.1, deeper (goal.at.loose_places-places-requires c).In_default)

pub parts_of-requires : goal.parts_of-requires
parts_of-requires c = (c.requires.2.block, deeper (goal.at.parts_of-requires c).In_default, c.requires.3.from, c.requires.3.below)

pub returns : goal.returns
returns c = way_parts _ _ _ _ _ c.args.cube c.args.k _ c.requires.2 c.requires.3 (c.narrow.ensures.same _ _) (c.narrow-2.ensures.same _ _) _ (ap num c.parts_of.ensures.0) (c.parts_of.ensures.1 _ _ c.loose_places-places.ensures)
