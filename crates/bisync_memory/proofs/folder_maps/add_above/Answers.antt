use Rattle.std.proofs.Common.{sym, ap, ◌∙◌, ◌||◌, take}
use Rattle.bisync_device.specs.FolderSet.{has_folder}
use Rattle.bisync_memory.specs.Store.{folder_set}
use Rattle.bisync_memory.proofs.BelowLemmas.{seen_byte}
use Rattle.bisync_memory.proofs.FolderLemmas.{added_slash, has-insert}
use Rattle.bisync_memory.proofs.folder_maps.add_above.Goals as goal

pub loop-i-preserved-then-byte-ne47 : goal.loop-i-preserved-then-byte-ne47
loop-i-preserved-then-byte-ne47 c = λ q.
    c.loop-i.invariant q
    ∙ ap (λ b. has_folder (folder_set c.args.folders.now.entries) q || b) (sym (seen_byte q c.as_bytes-text.result.now c.loop-i.i c.loop-i-test.true c.if-byte-ne47.true))

pub loop-i-preserved : goal.loop-i-preserved
loop-i-preserved c =
    added_slash
    (has_folder (folder_set c.args.folders.now.entries))
    (has_folder (folder_set c.loop-i.folders.entries))
    (has_folder (folder_set c.insert.new.self.entries))
    c.as_bytes-text.result.now c.in_ok-above.field-0 c.loop-i.i c.loop-i-test.true c.if-byte-ne47.false
    (c.in_ok-above.ensures ∙ ap (take c.loop-i.i) (sym c.as_bytes-text.ensures.bytes))
    c.loop-i.invariant
    (has-insert c.loop-i.folders.entries c.insert.new.self.entries c.in_ok-above.field-0 tt c.in_ok-insert.ensures.updates.0)
