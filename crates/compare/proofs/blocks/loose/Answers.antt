use Rattle.words.specs.Halves.{num, limit}
use Prim.Native.Nat.{◌+◌, ◌<◌}
use Rattle.words.proofs.WordLaws.{holds, num-lt, halves-zero}
use Rattle.compare.proofs.EngineNumbers.{all_told}
use Rattle.compare.proofs.EngineRules.{next-in}
use Rattle.compare.proofs.SweepPlaces.{open_told, loose_none, loose-all, loose-skip, loose-more}
use native.Mathlib.Omega.{arith}
use Rattle.compare.proofs.blocks.loose.Goals as goal
use Rattle.compare.proofs.blocks.loose.Goals.{Start}

h-below : (c : Start) → num c.args.h < limit
h-below c = num-lt c.args.h (omega arith) (omega arith)

pub next-s-requires : goal.next-s-requires
next-s-requires c = (c.start.ensures, omega arith, omega (arith, c.requires.few, c.requires.decisions))

pub loop-s-init : goal.loop-s-init
loop-s-init c = let E = next-in c.requires.decisions c.next-s.ensures in (E.0.few, loose-skip _ _ _ _ 0 _ _ E.0.after E.0.none (loose_none _ _ _ _ _ (holds halves-zero)), E.1)

pub read-requires : goal.read-requires
read-requires c = omega (arith, c.loop-s-test.true, c.requires.decisions)

pub read-requires-in-loop-s : goal.read-requires-in-loop-s
read-requires-in-loop-s c = omega (arith, c.loop-s-test.true, c.requires.values, c.requires.decisions)

pub returns-then-not-is_zero : goal.returns-then-not-is_zero
returns-then-not-is_zero c = loose-all _ _ _ _ (h-below (goal.at.returns-then-not-is_zero c).Start) _ _ (all_told c.lowest-all.ensures)

pub next-s-requires-in-loop-s : goal.next-s-requires-in-loop-s
next-s-requires-in-loop-s c = let l = c.loop-s-test.true in (c.loop-s.invariant.2 (omega (arith, c.requires.decisions)), omega arith, omega (arith, c.requires.few, c.requires.decisions))

pub loop-s-smaller : goal.loop-s-smaller
loop-s-smaller c = let l = c.loop-s-test.true in omega (arith, c.next-s-in-loop-s.ensures.0.after, c.requires.decisions)

pub loop-s-preserved : goal.loop-s-preserved
loop-s-preserved c = let E = next-in c.requires.decisions c.next-s-in-loop-s.ensures in (
  E.0.few,
  loose-skip _ _ _ _ (c.loop-s.s.at + 1) _ _ E.0.after E.0.none
      (loose-more _ _ _ _ (h-below (goal.at.loop-s-preserved c).Start) c.loop-s.s.at _ _ _ _ _ _ _ c.loop-s.invariant.1 (num-lt c.read.result (omega (arith, c.read.type_inv)) (omega (arith, c.read.type_inv))) c.read.ensures c.read-in-loop-s.ensures (open_told _ _ _ (num-lt c.read.result (omega (arith, c.read.type_inv)) (omega (arith, c.read.type_inv))) (all_told c.lowest-all.ensures) (holds c.without-open.ensures)) (holds c.bitxor.ensures) (holds c.bitor.ensures) (holds c.bitor-places.ensures)),
  E.1,
)

pub returns : goal.returns
returns c = loose-skip _ _ _ _ c.loop-s.s.at _ _ c.loop-s.invariant.0 (λ k p q. absurd (let z : ⊥ = omega (arith, c.loop-s-test.false, c.requires.decisions) in z)) c.loop-s.invariant.1
