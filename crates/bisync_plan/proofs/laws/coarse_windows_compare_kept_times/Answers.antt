use Rattle.bisync_plan.proofs.ListedOutcomes.{kept}
use Rattle.bisync_plan.proofs.laws.coarse_windows_compare_kept_times.Goals as goal

pub returns : goal.returns
returns c = record {
  run = λ conflict compare passes window1 window2 view. kept compare window1 window2;
  resync = λ mode compare passes window1 window2 now1 now2. kept compare window1 window2;
}
