use Rattle.std.proofs.lemmas.List.{take_rest}
use Rattle.text.proofs.decimal.write_number.Goals as goal

pub returns : goal.returns
returns c = let d = c.digits_at_end-from in
    rw (← d.ensures.2, ← take_rest d.new.space d.result, d.ensures.1) c.put.ensures
