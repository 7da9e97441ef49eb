use mathlib.Core.Path.{sym}
use Rattle.compare_check.proofs.OrderLaws.{comparison-ready}
use Rattle.compare.proofs.DoneLaws.{stopped, went_on}
use Rattle.compare.proofs.portions.compare_outcomes.Goals as goal

pub returns-in_err-check_comparison : goal.returns-in_err-check_comparison
returns-in_err-check_comparison c = stopped _ _ _ _ _ _ _ _ c.from_residual.ensures.1 c.in_err-check_comparison.ensures

pub fill-requires : goal.fill-requires
fill-requires c = let ready = comparison-ready _ _ _ _ _ _ _ _ _ _ _ _ _ _ (sym c.in_ok-check_comparison.ensures) in
    record {
      sound = ready.old-list;
      sound_2 = ready.new-list;
      start_bound = ready.portion.below;
      room = record { lasts = ready.portion.lasts; olds = ready.portion.olds; news = ready.portion.news };
    }

pub returns : goal.returns
returns c = went_on _ (sym c.in_ok-check_comparison.ensures) _ _ _ _ c.args.old_default c.args.new_default _ _ c.miss_number.ensures c.miss_number-2.ensures _ _ _ _ _ _ _ _ _ c.fill.ensures
