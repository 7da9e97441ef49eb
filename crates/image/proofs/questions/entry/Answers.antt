use mathlib.Core.List.{[]}
use mathlib.Core.Path.{sym}
use native.Mathlib.Omega.{arith}
use Rattle.rules.proofs.ReplyLaws.{stop-up}
use Rattle.image_form.proofs.PartLaws.{entry-got}
use Rattle.image.specs.Calls.{entry_reply}
use Rattle.image.proofs.SeekLaws.{image-facts}
use Rattle.image.proofs.AskLaws.{number-facts, entry-refused, entry-told}
use Rattle.image.proofs.questions.entry.Goals as goal

pub returns-in_err-check : goal.returns-in_err-check
unfolding entry_reply
returns-in_err-check c = stop-up _ _ _ _ _ c.from_residual.ensures.1 c.in_err-check.ensures

pub returns-in_err-check_number : goal.returns-in_err-check_number
returns-in_err-check_number c =
    entry-refused _ _ _ c.in_ok-check.ensures c.byte_at.ensures.0 _ _ c.from_residual-in_err-check_number.ensures.1 c.in_err-check_number.ensures

pub overflow_cast-id : goal.overflow_cast-id
overflow_cast-id c = omega (arith, c.entry_in-found.ensures.id)

pub returns : goal.returns
returns c =
    entry-told _ _ _ c.in_ok-check.ensures c.byte_at.ensures.0 c.entry_in-found.result c.in_ok-check_number.ensures
    (entry-got _ _ _ c.entry_in-found.ensures (omega (arith, number-facts c.args.k c.byte_at.result c.in_ok-check_number.ensures, (image-facts _ [] (sym c.in_ok-check.ensures)).head.contents)))
