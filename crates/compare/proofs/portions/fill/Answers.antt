use Rattle.rules.proofs.CheckLaws.{sound-narrow}
use Prim.Native.Nat.{◌^◌}
use mathlib.Core.Path.{refl}
use mathlib.Core.Bool.{false≢true}
use Rattle.std.specs.Prelude.{Some, None}
use Rattle.words.proofs.WordLaws.{holds, halves-zero}
use Rattle.compare.proofs.EngineWhole.{sound-ready, whole}
use Rattle.compare.proofs.EngineBlocks.{first_block}
use Rattle.compare.proofs.SweepSteps.{block-valid, asked, known_at, known-none}
use Rattle.compare.proofs.SweepLaws.{fill-going, fill-full}
use native.Mathlib.Omega.{arith}
use Rattle.compare.proofs.portions.fill.Goals as goal

pub above-requires : goal.above-requires
above-requires c = sound-narrow c.requires.sound

pub differs-requires : goal.differs-requires
differs-requires c = ((sound-ready _ _ _ _ c.requires.sound), (sound-ready _ _ _ _ c.requires.sound_2), block-valid _ _ (first_block _ c.args.width c.above.ensures (holds halves-zero) (sound-narrow c.requires.sound)), λ e. absurd (false≢true e))

pub sweep-requires : goal.sweep-requires
sweep-requires c = let B = first_block _ c.args.width c.above.ensures (holds halves-zero) (sound-narrow c.requires.sound) in
    ((sound-ready _ _ _ _ c.requires.sound), (sound-ready _ _ _ _ c.requires.sound_2), B, known_at _ _ _ _ _ _ (asked _ _ B _ _ _ (omega (arith, c.requires.start_bound)) (Some c.in-Some.h) c.in-Some.ensures.decided c.in-Some.ensures.fits), c.requires.room, omega arith)

pub returns-in_default : goal.returns-in_default
returns-in_default c = let B = first_block _ c.args.width c.above.ensures (holds halves-zero) (sound-narrow c.requires.sound) in
    fill-going _ _ _ _ _ _ _ _ _ _ _ (2 ^ c.args.width) (holds halves-zero) refl (λ h. whole _ _ _ _ h (sound-ready _ _ _ _ c.requires.sound)) (λ h. whole _ _ _ _ h (sound-ready _ _ _ _ c.requires.sound_2))
    c.requires.room (λ i. (c.slice_known-1.given i).fits) (λ i. (c.slice_known-2-1.given i).fits) _ _ _ _ (λ i. (c.slice_known-1.given i).fits) (λ i. (c.slice_known-2-1.given i).fits) 0
    (known-none _ _ _ _ _ (asked _ _ B _ _ _ (omega (arith, c.requires.start_bound)) None c.in_default.ensures.decided tt) (omega arith) _ _ _ _ 0 (omega arith))

pub returns-in-Continue : goal.returns-in-Continue
returns-in-Continue c =
    fill-going _ _ _ _ _ _ _ _ _ _ _ (2 ^ c.args.width) (holds halves-zero) refl (λ h. whole _ _ _ _ h (sound-ready _ _ _ _ c.requires.sound)) (λ h. whole _ _ _ _ h (sound-ready _ _ _ _ c.requires.sound_2))
    c.requires.room (λ i. (c.slice_known-1.given i).fits) (λ i. (c.slice_known-2-1.given i).fits) _ _ _ _ (λ i. (c.slice_known-5-1.given i).fits) (λ i. (c.slice_known-6-1.given i).fits) _ c.in-Continue.ensures

pub returns-in-Break : goal.returns-in-Break
returns-in-Break c =
    fill-full _ _ _ _ _ _ _ _ _ _ _ (2 ^ c.args.width) (holds halves-zero) refl (λ h. whole _ _ _ _ h (sound-ready _ _ _ _ c.requires.sound)) (λ h. whole _ _ _ _ h (sound-ready _ _ _ _ c.requires.sound_2))
    c.requires.room (λ i. (c.slice_known-1.given i).fits) (λ i. (c.slice_known-2-1.given i).fits) _ _ _ _ (λ i. (c.slice_known-5-1.given i).fits) (λ i. (c.slice_known-6-1.given i).fits) _ (omega arith) c.in-Break.ensures
