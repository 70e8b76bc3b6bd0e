use Rattle.std.proofs.Common.{◌∙◌, ap, not, rules, tests}
use Rattle.std.specs.Str.{bytes_eq}
use Rattle.std.proofs.lemmas.Map.Made.{filter_same_pairs}
use Rattle.bisync_device.specs.FolderSet.{has_folder}
use Rattle.bisync_memory.specs.Store.{folder_set}
use Rattle.bisync_memory.proofs.FolderLemmas.{has-filter}
use Rattle.bisync_memory.proofs.folder_maps.remove.Goals as goal

pub returns : goal.returns
returns c = λ q.
    ap (λ es. has_folder (folder_set es) q) (filter_same_pairs _ (λ e. not (bytes_eq e.0 c.args.path.now)) _ (λ k v b w f' t. search (rules, tests)) _ _ c.retain.ensures.filtered)
    ∙ has-filter (λ k. not (bytes_eq k c.args.path.now)) c.args.folders.now.entries q
