use Rattle.std.proofs.Common.{◌≢◌, refl, ap, rules, None, cond}
use Rattle.bisync_device.specs.WorkFolder.{Absent, at, with_held, is_there}
use Rattle.bisync_memory.specs.WorkFiles.{folder_of}
use Rattle.bisync_memory.specs.MemWork.{work_state, work_schedule}
use Rattle.bisync_memory.specs.declared.schedules.Verdict.TheVariants.{Fail}
use Rattle.bisync_memory.proofs.NameLemmas.{changed-name}
use Rattle.bisync_memory.proofs.works.calls.MemWorkWork.rename.Goals as goal

pub returns-clause-renames : goal.returns-clause-renames
returns-clause-renames c =
    let before = work_state c.args.self.now in
    let from = c.args.from in
    let f = before.folder in
    let ticked = c.tick-verdict.new.self in
    let after = record before { folder = folder_of c.rename-found.new.self; writing = None; faults = ticked.faults; left = ticked.left } in
    let goes : c.tick-verdict.result ≢ Fail = search rules in
    changed-name from _ before after (work_schedule c.args.self.now) c.tick-verdict.result _ _ c.rename-found.ensures.there
    (λ gone. ap (λ h. cond (is_there h) (with_held c.args.to (at f from) (with_held from Absent f)) f) gone)
    refl c.tick-verdict.ensures.verdict goes c.rename-found.ensures.folder c.answer.ensures
