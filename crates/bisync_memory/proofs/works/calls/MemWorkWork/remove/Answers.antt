use Rattle.std.proofs.Common.{◌≢◌, refl, sym, ◌∙◌, ap, rules, None}
use Rattle.bisync_device.specs.WorkFolder.{Held, with_held}
use Rattle.bisync_device.proofs.WorkFolderLaws.{with_held-own}
use Rattle.bisync_memory.specs.WorkFiles.{folder_of}
use Rattle.bisync_memory.specs.MemWork.{work_state, work_schedule}
use Rattle.bisync_memory.specs.declared.schedules.Verdict.TheVariants.{Fail}
use Rattle.bisync_memory.proofs.NameLemmas.{changed-name}
use Rattle.bisync_memory.proofs.works.calls.MemWorkWork.remove.Goals as goal

pub returns-clause-removes : goal.returns-clause-removes
returns-clause-removes c =
    let before = work_state c.args.self.now in
    let ticked = c.tick-verdict.new.self in
    let after = record before { folder = folder_of c.remove-found.new.self; writing = None; faults = ticked.faults; left = ticked.left } in
    let goes : c.tick-verdict.result ≢ Fail = search rules in
    changed-name c.args.name _ before after (work_schedule c.args.self.now) c.tick-verdict.result _ _ c.remove-found.ensures.there
    (λ gone. ap (λ (h : Held). with_held c.args.name h before.folder) (sym gone) ∙ with_held-own c.args.name before.folder)
    refl c.tick-verdict.ensures.verdict goes c.remove-found.ensures.folder c.answer.ensures
