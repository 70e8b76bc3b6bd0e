use Rattle.std.proofs.Common.{◌≡◌, ◌||◌, ℕ, List}
use Rattle.std.specs.Str.{bytes_eq}
use Rattle.std.specs.List.{list_any}
use Rattle.bisync_device.specs.FolderSet.{has_folder}
use Rattle.bisync_memory.specs.Store.{folder_set}
use Rattle.bisync_memory.proofs.folder_maps.copy.Given as goal

abbrev pub invariant-loop-name : goal.invariant-loop-name
invariant-loop-name l = (q : List ℕ) → has_folder (folder_set l.folders.entries) q ≡ (has_folder (folder_set l.copy.entries) q || list_any (λ k. bytes_eq k q) l.name-iterator)
