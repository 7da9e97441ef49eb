use mathlib.Core.Path.{sym}
use Rattle.acceptance.proofs.CallLaws.{both-sound, accept-refused, accept-judged}
use Rattle.acceptance.proofs.accepting.accept.Goals as goal

pub returns-in_err-check_candidate : goal.returns-in_err-check_candidate
returns-in_err-check_candidate c = accept-refused _ _ _ _ _ _ _ _ _ c.from_residual.ensures.1 c.in_err-check_candidate.ensures

pub judged-requires : goal.judged-requires
judged-requires c = both-sound _ _ _ _ _ _ _ (sym c.in_ok-check_candidate.ensures)

pub returns : goal.returns
returns c = accept-judged _ _ _ _ _ _ _ _ c.in_ok-check_candidate.ensures c.judged.ensures
