use mathlib.Core.Path.{sym}
use native.Mathlib.Omega.{arith}
use Rattle.rules.proofs.CheckLaws.{results-room}
use Rattle.image.proofs.SeekLaws.{id-facts}
use Rattle.image.proofs.AskLaws.{read-id, read-results, read-gives}
use Rattle.image.proofs.reading.read.Goals as goal

pub returns-in_err-p : goal.returns-in_err-p
returns-in_err-p c = read-id _ _ _ _ _ _ _ c.from_residual.ensures.1 c.in_err-p.ensures

pub returns-in_err-check_results : goal.returns-in_err-check_results
returns-in_err-check_results c =
    read-results _ _ _ _ _ _ _ c.from_residual-in_err-check_results.ensures.1 _ c.in_ok-p.ensures c.in_err-check_results.ensures

pub bounds-image-0 : goal.bounds-image-0
bounds-image-0 c = omega (arith, (id-facts _ _ c.in_ok-p.ensures.checked).head.least)

pub fill-requires : goal.fill-requires
fill-requires c = let r = results-room _ _ _ _ (sym c.in_ok-check_results.ensures) in
    (c.in_ok-p.ensures.stands.within, r.1, r.0)

pub returns : goal.returns
returns c = read-gives _ _ _ _ _ _ _ _ _ c.in_ok-p.ensures c.in_ok-check_results.ensures c.fill.ensures
