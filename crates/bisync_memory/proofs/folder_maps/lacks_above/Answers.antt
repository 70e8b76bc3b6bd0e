use Rattle.std.proofs.Common.{sym, ◌∙◌}
use Rattle.bisync_device.specs.FolderSet.{has_folder}
use Rattle.bisync_memory.specs.Store.{folder_set}
use Rattle.bisync_memory.proofs.BelowLemmas.{seen_byte, seen_all}
use Rattle.bisync_memory.proofs.folder_maps.lacks_above.Goals as goal

pub loop-i-preserved-then-byte-ne47 : goal.loop-i-preserved-then-byte-ne47
loop-i-preserved-then-byte-ne47 c = λ q h. c.loop-i.invariant q (sym (seen_byte q c.as_bytes-text.result.now c.loop-i.i c.loop-i-test.true c.if-byte-ne47.true) ∙ h)

pub loop-i-preserved : goal.loop-i-preserved
loop-i-preserved c =
    seen_all (has_folder (folder_set c.args.folders.now.entries)) c.as_bytes-text.result.now c.loop-i.i c.loop-i-test.true c.if-byte-ne47.false (sym c.if-not-has.ensures) c.loop-i.invariant
