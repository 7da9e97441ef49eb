use Rattle.words.specs.Words.{bit, without as less}
use mathlib.Core.Path.{◌≡◌, refl, sym, ap, ◌∙◌}
use mathlib.Core.Bool.{false≢true}
use native.Mathlib.Omega.{arith}
use Rattle.words.specs.Halves.{num}
use Rattle.words.proofs.WordLaws.{holds}
use Rattle.compare.proofs.LowestLaws.{zero-there, one-there, lowered-zero, lowered-fixed, part-valid, lowered-or}
use Rattle.compare.proofs.lowest.lower.Goals as goal
use Rattle.compare.proofs.lowest.lower.Goals.{Else-is_zero, Else-not-is_zero}

-- h has 1 at the place that is asked about,
one : (c : Else-is_zero) → bit (num c.args.h) c.args.k ≡ 1
one c = one-there _ _ _ _ c.place-p.ensures (holds c.bitand.ensures) (sym c.is_zero.ensures ∙ c.if-is_zero.false)

-- and the cube does not care there
free : (c : Else-not-is_zero) → bit (num c.args.cube.care) c.args.k ≡ 0
free c = zero-there _ _ _ _ c.place-p.ensures (holds c.bitand-2.ensures) (sym c.is_zero-2.ensures ∙ c.if-not-is_zero.false)

pub returns-then-is_zero : goal.returns-then-is_zero
returns-then-is_zero c = lowered-zero _ _ _ _ _ _ c.requires.3 (zero-there _ _ _ _ c.place-p.ensures (holds c.bitand.ensures) (sym c.is_zero.ensures ∙ c.if-is_zero.true))

pub returns-then-not-is_zero : goal.returns-then-not-is_zero
returns-then-not-is_zero c = lowered-fixed _ _ _ _ _ _ c.requires.3 (one-there _ _ _ _ c.place-p.ensures (holds c.bitand-2.ensures) (sym c.is_zero-2.ensures ∙ c.if-not-is_zero.true))

pub differs-requires : goal.differs-requires
differs-requires c = let E = goal.at.differs-requires c in
    (c.requires.0, c.requires.1, part-valid _ _ _ _ _ _ c.requires.3 (one E.Else-is_zero) (free E.Else-not-is_zero) (omega (arith, c.requires.2)) _ _ _ _ c.above.ensures (holds c.bitor-fixed.ensures) (holds c.without.ensures ∙ ap (less (num c.args.h)) c.place-p.ensures) (holds c.bitand-3.ensures), λ e. absurd (false≢true e))

pub returns : goal.returns
returns c = let E = goal.at.returns c in
    rw c.unwrap_or.ensures (lowered-or _ _ _ _ _ _ c.requires.3 (one E.Else-is_zero) (free E.Else-not-is_zero) (omega (arith, c.requires.2)) _ _ _ _ c.above.ensures (holds c.bitor-fixed.ensures) (holds c.without.ensures ∙ ap (less (num c.args.h)) c.place-p.ensures) (holds c.bitand-3.ensures) c.args.h refl _ c.differs.ensures.decided c.differs.ensures.fits)
