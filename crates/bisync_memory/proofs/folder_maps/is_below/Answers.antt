use Rattle.std.proofs.Common.{sym, ◌∙◌}
use Rattle.bisync_memory.proofs.BelowLemmas.{no_slash_is_apart, slash_is_below}
use Rattle.bisync_memory.proofs.folder_maps.is_below.Goals as goal

pub returns-then-path-folder-ne47 : goal.returns-then-path-folder-ne47
returns-then-path-folder-ne47 c = sym (no_slash_is_apart c.args.folder.now c.args.path.now c.if-path-folder-ne47.true)

pub returns : goal.returns
returns c = c.starts_with.ensures.value ∙ slash_is_below c.args.folder.now c.args.path.now c.if-path-folder.false c.if-path-folder-ne47.false
