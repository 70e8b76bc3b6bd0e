use Rattle.bisync_run.proofs.WholeRefusals.{resync_free, resync_same, run_free, run_same}
use Rattle.bisync_run.proofs.refusal_laws.all_refusals_are_exclusive.Goals as goal

pub returns : goal.returns
returns c = record {
  run = λ opts limits f start moment a b small. run_same opts limits f start moment small a b;
  run_goes_on = λ opts limits f start moment end small. run_free opts limits f start moment small end;
  resync = resync_same;
  resync_goes_on = resync_free;
}
