use Rattle.image_weaving.specs.Parts.{RoomForAll, ListsSqueezed}
use Rattle.image_weaving.proofs.images.squeeze_lists.Given as goal

abbrev pub invariant-loop-k : goal.invariant-loop-k
invariant-loop-k l = RoomForAll l.image l.ids l.counts l.care l.value l.decision × ListsSqueezed l.squeeze l.image l.k l.from l.ids l.counts l.care l.value l.decision
