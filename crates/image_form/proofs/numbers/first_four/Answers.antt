use Rattle.image_form.proofs.NumberLaws.{four-read}
use Rattle.image_form.proofs.numbers.first_four.Goals as goal

pub returns : goal.returns
returns c = four-read c.args.bytes.now _ c.requires c.type_inv.bytes c.from_le_bytes.ensures
