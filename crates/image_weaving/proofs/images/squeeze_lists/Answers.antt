use Rattle.image_weaving.proofs.NextLaws.{none-squeezed}
use Rattle.image_weaving.proofs.images.squeeze_lists.Goals as goal

pub loop-k-init : goal.loop-k-init
loop-k-init c = (c.requires, none-squeezed _ _ _ _ _ _ _)
