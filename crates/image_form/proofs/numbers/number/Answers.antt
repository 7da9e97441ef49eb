use Rattle.image_form.proofs.NumberLaws.{eight-padded, le-below}
use Rattle.image_form.proofs.numbers.number.Goals as goal

pub returns : goal.returns
returns c =
    let e = eight-padded c.args.bytes.now _ c.requires (rw c.copy_from_slice.ensures.after at c.from_le_bytes.ensures) in
    (e, rw e (le-below c.args.bytes.now c.type_inv.bytes))
