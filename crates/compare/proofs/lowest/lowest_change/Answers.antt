use Prim.Native.Nat.{ℕ}
use mathlib.Core.Path.{◌≡◌, refl, ap, ◌∙◌}
use mathlib.Core.Bool.{false≢true}
use lib.Bits.{bit_or}
use lib.ListN.{get_or}
use Rattle.words.specs.Slices.{words_of}
use Rattle.words.specs.Halves.{num}
use Rattle.words.proofs.WordLaws.{holds}
use Rattle.rules.proofs.CheckLaws.{sound-narrow}
use Rattle.compare.specs.Search.{found_list}
use Rattle.compare.proofs.EngineMembers.{none-member}
use Rattle.compare.proofs.EngineWhole.{sound-ready}
use Rattle.compare.proofs.SearchLaws.{in-cares, in-values, start-valid, search-none, search-start, search-end}
use Rattle.compare.proofs.lowest.lowest_change.Goals as goal
use Rattle.compare.proofs.lowest.lowest_change.Goals.{After-bitor}

-- the cube cares where the rule does and above the width
cared : (c : After-bitor) → num c.bitor.result ≡ bit_or (get_or (words_of c.args.rules.care.now) c.args.i 0) (num c.above.result)
cared c = holds c.bitor.ensures ∙ ap (λ (x : ℕ). bit_or x (num c.above.result)) c.read.ensures

pub read-requires : goal.read-requires
read-requires c = in-cares _ _ _ _ _ c.requires.0 c.requires.1

pub above-requires : goal.above-requires
above-requires c = sound-narrow c.requires.0

pub read-requires-2 : goal.read-requires-2
read-requires-2 c = in-values _ _ _ _ _ c.requires.0 c.requires.1

pub narrow-requires : goal.narrow-requires
narrow-requires c = (sound-ready _ _ _ _ c.requires.0, refl, none-member)

pub narrow-requires-2 : goal.narrow-requires-2
narrow-requires-2 c = (sound-ready _ _ _ _ c.requires.0, refl, none-member)

pub differs-requires : goal.differs-requires
differs-requires c = ((sound-ready _ _ _ _ c.requires.0), (sound-ready _ _ _ _ c.requires.0), start-valid _ _ _ _ _ c.requires.0 c.requires.1 _ _ _ c.above.ensures (cared (goal.at.differs-requires c).After-bitor) c.read-2.ensures, λ e. absurd (false≢true e))

pub lowest-requires : goal.lowest-requires
lowest-requires c = (sound-ready _ _ _ _ c.requires.0, sound-ready _ _ _ _ c.requires.0, sound-narrow c.requires.0, search-start _ _ _ _ _ c.requires.0 c.requires.1 _ _ _ c.above.ensures (cared (goal.at.lowest-requires c).After-bitor) c.read-2.ensures _ _ _ c.leave_out.ensures c.narrow.ensures c.narrow-2.ensures _ c.in_ok-h.ensures.fits c.in_ok-h.ensures.decided)

pub returns : goal.returns
returns c = search-end _ _ _ _ _ c.requires.0 c.requires.1 _ _ _ c.above.ensures (cared (goal.at.returns c).After-bitor) c.read-2.ensures _ _ _ c.leave_out.ensures c.narrow.ensures c.narrow-2.ensures _ c.lowest.ensures

pub returns-in_err-h : goal.returns-in_err-h
returns-in_err-h c = ap found_list c.from_residual.ensures ∙ search-none _ _ _ _ _ c.requires.0 c.requires.1 _ _ _ c.above.ensures (cared (goal.at.returns-in_err-h c).After-bitor) c.read-2.ensures _ _ _ c.leave_out.ensures c.narrow.ensures c.narrow-2.ensures c.in_err-h.ensures.decided
