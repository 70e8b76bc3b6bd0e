use Rattle.bisync_run.proofs.OrdinaryRefusalLaws.{run_refusals_same, run_not_refused}
use Rattle.bisync_run.proofs.refusal_laws.run_refusals_are_exclusive.Goals as goal

pub returns : goal.returns
returns c = record {
  refusals = λ opts limits f s digest a b small. run_refusals_same opts limits f s digest small a b;
  none = λ opts limits f s digest end small. run_not_refused opts limits f s digest small end;
}
