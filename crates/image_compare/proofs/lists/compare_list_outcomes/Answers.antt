use Rattle.image_compare.proofs.CompareLaws.{old-refused, new-refused, widths-refused, lists-compared}
use Rattle.image_compare.proofs.lists.compare_list_outcomes.Goals as goal

pub returns-in_err-source : goal.returns-in_err-source
returns-in_err-source c = old-refused _ _ _ _ _ _ _ _ _ _ _ _ _ c.from_residual.ensures.1 c.in_err-source.ensures

pub returns-in_err-candidate : goal.returns-in_err-candidate
returns-in_err-candidate c = new-refused _ _ _ _ _ _ _ _ _ _ _ _ _ c.from_residual-in_err-candidate.ensures.1 c.in_ok-source.ensures.checked c.in_err-candidate.ensures

pub returns-in_err-check_widths : goal.returns-in_err-check_widths
returns-in_err-check_widths c =
    widths-refused _ _ _ _ _ _ _ _ _ _ _ _ _ c.from_residual-in_err-check_widths.ensures.1 c.in_ok-source.ensures.checked c.in_ok-candidate.ensures.checked c.in_err-check_widths.ensures

pub returns : goal.returns
returns c =
    lists-compared _ _ _ _ _ _ _ _ _ _ _ _ _ _ _ _ _ _ _ c.in_ok-source.ensures c.in_ok-candidate.ensures c.in_ok-check_widths.ensures c.byte_at.ensures.0 c.compare_outcomes.ensures
