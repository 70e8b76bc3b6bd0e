use Rattle.std.proofs.Common.{◌∙◌, ap, sym}
use Rattle.bisync_device.specs.WorkFolder.{Held, synced, with_held}
use Rattle.bisync_memory.specs.WorkFiles.{folder_of}
use Rattle.bisync_memory.proofs.HeldLemmas.{exchanged-twice, synced-held}
use Rattle.bisync_memory.proofs.work_files.WorkFiles.sync.Goals as goal

pub returns-in-Some : goal.returns-in-Some
returns-in-Some c =
    let f = folder_of c.args.self.now in
    let stored = c.in-Some.stored in
    let kept = sym (synced-held stored.kept stored.bytes.items) ∙ ap synced c.in-Some.ensures.before in
    exchanged-twice c.args.name _ _ f _ _ c.exchange.ensures.folder c.exchange-in-Some.ensures.folder
    ∙ ap (λ (h : Held). with_held c.args.name h f) kept
