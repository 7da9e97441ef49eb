use Rattle.text.proofs.PatternLaws.{text-none, text-more, no-width, too_short, all-places}
use Rattle.rules.proofs.CheckLaws.{width_low, width-high, width-inside}
use lib.ListN.{length-set}
use native.Mathlib.Omega.{arith}
use mathlib.Core.Path.{refl, ◌∙◌}
use Rattle.text.proofs.patterns.write_pattern.Goals as goal

pub returns-then-width-gt128 : goal.returns-then-width-gt128
returns-then-width-gt128 c = no-width _ _ _ (width-high _ (omega arith) (omega arith))

pub returns-then-width-lt1 : goal.returns-then-width-lt1
returns-then-width-lt1 c = no-width _ _ _ (width_low _ (omega arith))

pub returns-then-out-size : goal.returns-then-out-size
returns-then-out-size c = too_short _ _ _ (width-inside _ (omega arith) (omega arith)) c.if-out-size.true

pub loop-k-init : goal.loop-k-init
loop-k-init c = (refl, text-none _ _ _)

pub loop-k-preserved : goal.loop-k-preserved
loop-k-preserved c = let o = c.loop-k in (
  length-set o.out o.k c.glyph.result ∙ o.invariant.0,
  text-more _ _ o.k _ _ _ (omega arith) c.glyph.ensures o.invariant.1,
)

pub shape_of-out : goal.shape_of-out
shape_of-out c = c.loop-k.invariant.0

pub returns : goal.returns
returns c = all-places _ _ _ (width-inside _ (omega arith) (omega arith)) c.loop-k.k _ c.if-out-size.false (omega arith) c.loop-k.invariant.1
