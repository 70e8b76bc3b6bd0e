use Rattle.std.proofs.Common.{sym, ap, take, ◌∙◌, subst}
use Rattle.bisync_memory.specs.FolderName.{IsFolderName}
use Rattle.bisync_memory.proofs.PrefixLemmas.{front_is_name}
use Rattle.bisync_memory.proofs.folder_names.FolderName.above.Goals as goal

pub invariant_of-result : goal.invariant_of-result
invariant_of-result c =
    subst IsFolderName (sym (c.in_ok-from_bytes.ensures ∙ ap (take c.args.slash) c.as_bytes-bytes.ensures.bytes))
    (front_is_name c.args.path.now c.args.slash c.requires.within c.requires.is_slash c.as_bytes-bytes.ensures.path)
