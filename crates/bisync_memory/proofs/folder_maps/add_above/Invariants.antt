use Rattle.std.proofs.Common.{◌≡◌, ◌||◌, ℕ, List, take}
use Rattle.bisync_device.specs.FolderSet.{has_folder, is_below}
use Rattle.bisync_memory.specs.Store.{folder_set}
use Rattle.bisync_memory.proofs.folder_maps.add_above.Given as goal

abbrev pub invariant-loop-i : goal.invariant-loop-i
invariant-loop-i l = (q : List ℕ) → has_folder (folder_set l.folders.entries) q ≡ (has_folder (folder_set l.initial.folders.entries) q || is_below q (take l.i l.text))
