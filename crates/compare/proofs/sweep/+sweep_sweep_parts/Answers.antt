use Prim.Native.Nat.{ℕ, ◌+◌, ◌^◌}
use mathlib.Core.Path.{refl, sym, ◌∙◌}
use Rattle.words.specs.Halves.{num}
use Rattle.words.proofs.Tests.{eqb_yes, no_eqb}
use Rattle.std.specs.declared.ops.ControlFlow.TheVariants.{Continue}
use Rattle.compare.specs.EngineSets.{answer_in}
use Rattle.compare.specs.Sweep.{Sweeps}
use Rattle.compare.proofs.EngineBlocks.{block-few}
use Rattle.compare.proofs.EngineMembers.{none-member}
use Rattle.compare.proofs.SweepSteps.{block-valid, block_last, known_at, known-none, goes-piece, goes_parts, block-piece, block-parts, swept_as, parts-start, parts-few, parts-room, parts-stop, parts-end, parts_next}
use native.Mathlib.Omega.{arith}
use Rattle.compare.proofs.sweep.+sweep_sweep_parts.Goals as goal
use Rattle.compare.proofs.sweep.+sweep_sweep_parts.Goals.{sweep_parts-After-eq, sweep_parts-in-Some+in-Continue, sweep_parts-in_default}

pub sweep-way_of-requires : goal.sweep-way_of-requires
sweep-way_of-requires t c = (c.requires.0, c.requires.1, c.requires.2, c.requires.3, refl, none-member, refl, none-member)

pub sweep-last_of-requires : goal.sweep-last_of-requires
sweep-last_of-requires t c = block-valid c.args.cube c.args.k c.requires.2

pub sweep-piece-requires : goal.sweep-piece-requires
sweep-piece-requires t c = (omega (arith, c.last_of.ensures), (goes-piece _ _ _ _ (num c.args.start) (num c.args.cube.value) c.args.k _ _ c.in-Piece.ensures).differ, c.requires.4, c.requires.5)

pub sweep-sweep_parts-requires : goal.sweep-sweep_parts-requires
sweep-sweep_parts-requires t c = let D = goes_parts _ _ _ _ (num c.args.start) (num c.args.cube.value) c.args.k _ c.in-Parts.ensures in
    (omega (arith, D.parted.less, c.decreases), (c.requires.0, c.requires.1, D.parted.blocks, D.differ, c.requires.4, c.requires.5))

pub sweep-returns-in-Piece : goal.sweep-returns-in-Piece
sweep-returns-in-Piece t c = block-piece _ _ _ _ (num c.args.start) (num c.args.cube.value) c.args.k _ _ _ _ _ _ _ _ _ _ _ _ c.in-Piece.ensures _ (block_last c.args.cube c.args.k c.requires.2 _ c.last_of.ensures) c.piece.ensures

pub sweep-returns-in-Parts : goal.sweep-returns-in-Parts
sweep-returns-in-Parts t c = block-parts _ _ _ _ (num c.args.start) (num c.args.cube.value) c.args.k _ _ _ _ _ _ _ _ _ _ _ c.in-Parts.ensures c.requires.5 c.sweep_parts.ensures

pub sweep_parts-above-requires : goal.sweep_parts-above-requires
sweep_parts-above-requires t c = block-few _ _ c.requires.2.lower

pub sweep_parts-loop-h-init : goal.sweep_parts-loop-h-init
sweep_parts-loop-h-init t c = parts-start _ _ _ c.args.p c.requires.2 _ _ _ _ _ _ c.above.ensures refl c.requires.5

pub sweep_parts-sweep-requires : goal.sweep_parts-sweep-requires
sweep_parts-sweep-requires t c = (omega (arith, c.decreases), (c.requires.0, c.requires.1, c.loop-h.invariant.block, known_at _ _ _ _ _ _ c.in-Some.ensures, parts-room _ _ _ c.args.p c.requires.2 _ _ _ _ _ _ _ _ _ _ _ c.loop-h.invariant c.requires.4, parts-few _ _ _ c.args.p c.requires.2 _ _ _ _ _ _ _ _ _ _ _ c.loop-h.invariant))

pub sweep_parts-returns-in-Break : goal.sweep_parts-returns-in-Break
sweep_parts-returns-in-Break t c = parts-stop _ _ _ c.args.p c.requires.2 _ _ _ _ _ _ _ _ _ _ _ c.loop-h.invariant _ _ _ _ _ c.in-Break.ensures

-- the part that is looked at is swept
part-swept : (t : ℕ) (c : sweep_parts-After-eq t) → let a = c.args in let l = c.loop-h in
    Sweeps (answer_in a.old.now) (answer_in a.new.now)
    (num a.start) (num l.part.value) (num l.part.value + 2 ^ a.p.k)
    l.first l.last l.old_answer l.new_answer c.match-ask.first c.match-ask.last c.match-ask.old_answer c.match-ask.new_answer l.m (Continue c.match-ask.m)
part-swept t c = elim c.match-ask.branch [
  | sweep_parts-in-Some+in-Continue v ↦ swept_as _ _ _ _ _ _ _ _ _ _ v.in-Continue.ensures v.first-is v.last-is v.old_answer-is v.new_answer-is v.m-is
  | sweep_parts-in_default v ↦ swept_as _ _ _ _ _ _ _ _ _ _
      (known-none _ _ _ _ _ v.in_default.ensures (omega arith) _ _ _ _ _
      (parts-few _ _ _ _ c.requires.2 _ _ _ _ _ _ _ _ _ _ _ c.loop-h.invariant)) v.first-is v.last-is v.old_answer-is v.new_answer-is v.m-is
]

pub sweep_parts-returns-then-eq : goal.sweep_parts-returns-then-eq
sweep_parts-returns-then-eq t c =
    parts-end _ _ _ c.args.p c.requires.2 _ _ _ _ _ _ _ _ _ _ _ c.loop-h.invariant _ _ _ _ _
    (part-swept t (goal.at.sweep_parts-returns-then-eq t c).After-eq) (eqb_yes _ _ (sym c.eq.ensures ∙ c.if-eq.true))

pub sweep_parts-loop-h-preserved : goal.sweep_parts-loop-h-preserved
sweep_parts-loop-h-preserved t c =
    parts_next _ _ _ c.args.p c.requires.2 _ _ _ _ _ _ _ _ _ _ _ c.loop-h.invariant _ _ _ _ _
    (part-swept t (goal.at.sweep_parts-loop-h-preserved t c).After-eq) (no_eqb _ _ (sym c.eq.ensures ∙ c.if-eq.false)) _ refl refl
