use Rattle.std.proofs.Common.{◌∙◌, ap, not, ◌||◌, rules, tests}
use Rattle.std.specs.Str.{bytes_eq}
use Rattle.std.proofs.lemmas.Map.Made.{filter_same_pairs}
use Rattle.bisync_device.specs.FolderSet.{has_folder, is_below}
use Rattle.bisync_memory.specs.Store.{folder_set}
use Rattle.bisync_memory.proofs.FolderLemmas.{has-filter}
use Rattle.bisync_memory.proofs.folder_maps.clear.Goals as goal

pub returns : goal.returns
returns c = λ q.
    ap (λ es. has_folder (folder_set es) q) (filter_same_pairs _ (λ e. not (bytes_eq e.0 c.args.path.now || is_below c.args.path.now e.0)) _ (λ k v b w f' t. search (rules, tests)) _ _ c.retain.ensures.filtered)
    ∙ has-filter (λ k. not (bytes_eq k c.args.path.now || is_below c.args.path.now k)) c.args.folders.now.entries q
