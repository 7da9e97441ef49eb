use native.Mathlib.Omega.{arith}
use borrow.Author.Rules.{rules}
use mathlib.Core.Path.{sym}
use Rattle.rules.specs.Slices.{Lent}
use Rattle.rules.proofs.ReplyLaws.{then-stop}
use Rattle.pruning.specs.Calls.{prune_reply}
use Rattle.pruning.proofs.CallLaws.{prune-refused, prune-results, prune-ready, prune-given}
use Rattle.pruning.proofs.whole.prune.Goals as goal

pub returns-in_err-check_list : goal.returns-in_err-check_list
unfolding prune_reply
returns-in_err-check_list c = prune-refused _ _ _ _ _ _ _ _ _ _ c.from_residual.ensures.1 (then-stop _ _ c.in_err-check_list.field-0.0 (sym c.in_err-check_list.ensures))

pub returns-in_err-check_results : goal.returns-in_err-check_results
returns-in_err-check_results c = prune-refused _ _ _ _ _ _ _ _ _ _ c.from_residual-in_err-check_results.ensures.1
    (prune-results _ _ _ _ _ _ _ _ c.in_ok-check_list.ensures c.in_err-check_results.field-0.0 c.in_err-check_results.ensures)

pub prune_into-requires : goal.prune_into-requires
prune_into-requires c = prune-ready _ _ _ _ _ _ _ _ c.in_ok-check_list.ensures c.in_ok-check_results.ensures

pub returns : goal.returns
returns c = let ready = prune-ready _ _ _ _ _ _ _ _ c.in_ok-check_list.ensures c.in_ok-check_results.ensures in
    let p = c.prune_into in
    let new : Lent p.new.care p.new.value p.new.decision =
    record {
      values = omega (arith, p.auto.care, p.auto.value, ready.1.values);
      decisions = omega (arith, p.auto.care, p.auto.decision, ready.1.decisions);
    } in
    prune-given _ _ _ _ _ _ _ _ c.in_ok-check_list.ensures c.in_ok-check_results.ensures _ _ _ _ _ new
    (search rules) (search rules) (search rules) (λ i. (c.type_inv.out_care i).fits) (λ i. (c.type_inv.out_value i).fits) (λ i. (c.type_inv.header i).fits) p.ensures
