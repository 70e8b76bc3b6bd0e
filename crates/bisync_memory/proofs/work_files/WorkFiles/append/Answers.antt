use Rattle.std.proofs.Common.{◌∙◌, ap, sym, List, ℕ, cond}
use Rattle.bisync_device.specs.WorkFolder.{Held, Kept, Loose, appended, with_held}
use Rattle.bisync_memory.specs.WorkFiles.{folder_of}
use Rattle.bisync_memory.proofs.HeldLemmas.{exchanged-twice, exchanged-back, appended-held}
use Rattle.bisync_memory.proofs.work_files.WorkFiles.append.Goals as goal

pub returns-in-Ok-clause-ok : goal.returns-in-Ok-clause-ok
returns-in-Ok-clause-ok c =
    let f = folder_of c.args.self.now in
    let more = c.args.bytes.now in
    let stored = c.in-Some.stored in
    let longer = ap Loose c.in-Ok.ensures.items ∙ sym (appended-held more stored.kept stored.bytes.items) ∙ ap (appended more) c.in-Some.ensures.before in
    exchanged-twice c.args.name _ _ f _ _ c.exchange.ensures.folder c.exchange-in-Ok.ensures.folder
    ∙ ap (λ (h : Held). with_held c.args.name h f) longer

pub returns-in-Err-clause-err : goal.returns-in-Err-clause-err
returns-in-Err-clause-err c =
    let kept = c.in-Some.stored.kept in
    let same = ap (λ (bytes : List ℕ). cond kept (Kept bytes) (Loose bytes)) c.in-Err.ensures.items ∙ c.in-Some.ensures.before in
    exchanged-back c.args.name _ _ (folder_of c.args.self.now) _ _ c.exchange.ensures.folder same c.exchange-in-Err.ensures.folder
