use Rattle.bisync_run.proofs.AgreementLaws.{checked_agree, end_agrees, not_out_of_sync, resync_end_agrees}
use Rattle.bisync_run.specs.Sides.{sides_of}
use Rattle.bisync_run.proofs.agreement_laws.agreeing_bases_stay_in_sync.Goals as goal

pub returns : goal.returns
returns c = record {
  outcome = λ opts compare rules a b base names agrees. end_agrees compare rules a b opts base agrees names;
  in_sync = λ opts limits f compare rules a b base p one two agrees. not_out_of_sync compare rules a b opts base agrees limits f p one two;
  checked = λ opts limits f compare rules a b. checked_agree opts limits f (sides_of compare rules a b);
  resync = λ mode compare rules a b. resync_end_agrees compare rules a b mode;
}
