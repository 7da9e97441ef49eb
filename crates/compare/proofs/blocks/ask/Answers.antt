use Prim.Native.Nat.{◌+◌, ◌^◌, ◌<◌}
use mathlib.Core.Path.{sym, ◌∙◌}
use mathlib.Core.Bool.{false≢true}
use borrow.Author.Tests.{ltb-true, ltb-false}
use Rattle.words.specs.Halves.{num}
use Rattle.words.proofs.WordLaws.{holds, num-lt}
use Rattle.words.proofs.Tests.{eqb_yes}
use Rattle.compare.proofs.SweepSteps.{block-valid, block_last, known-before, known-near, asked}
use native.Mathlib.Omega.{arith}
use Rattle.compare.proofs.blocks.ask.Goals as goal
use Rattle.compare.proofs.blocks.ask.Goals.{Else-less}

-- the block does not lie before the start
reaches : (c : Else-less) → num c.args.start < num c.args.cube.value + 2 ^ c.args.k
reaches c = omega (arith, ltb-false (num c.last_of.result) (num c.args.start) (sym c.less.ensures ∙ c.if-less.false), block_last c.args.cube c.args.k c.requires.2 (num c.last_of.result) c.last_of.ensures)

pub last_of-requires : goal.last_of-requires
last_of-requires c = block-valid c.args.cube c.args.k c.requires.2

pub returns-then-less : goal.returns-then-less
returns-then-less c = known-before c.args.cube c.args.k c.requires.2 _ _ _ (omega (arith, ltb-true (num c.last_of.result) (num c.args.start) (sym c.less.ensures ∙ c.if-less.true), block_last c.args.cube c.args.k c.requires.2 (num c.last_of.result) c.last_of.ensures))

pub returns-then-eq : goal.returns-then-eq
returns-then-eq c = known-near c.args.cube c.args.k c.requires.2 _ _ _ c.args.known (num-lt c.args.known (omega arith) (omega arith)) (reaches (goal.at.returns-then-eq c).Else-less) c.requires.3 (sym (holds c.bitand.ensures) ∙ eqb_yes _ _ (sym c.eq.ensures ∙ c.if-eq.true))

pub differs-requires : goal.differs-requires
differs-requires c = (c.requires.0, c.requires.1, block-valid c.args.cube c.args.k c.requires.2, λ e. absurd (false≢true e))

pub returns : goal.returns
returns c = asked c.args.cube c.args.k c.requires.2 _ _ _ (reaches (goal.at.returns c).Else-less) _ c.differs.ensures.decided c.differs.ensures.fits
