use Rattle.image_weaving.proofs.WriteLaws.{image-refused}
use Rattle.image_weaving.proofs.images.squeeze_image.Goals as goal

pub returns-in_err-check : goal.returns-in_err-check
returns-in_err-check c = image-refused _ _ _ _ _ c.from_residual.ensures.1 c.in_err-check.ensures
