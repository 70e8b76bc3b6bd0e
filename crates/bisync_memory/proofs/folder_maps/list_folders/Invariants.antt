use Rattle.std.proofs.Common.{◌≡◌, ◌++◌, ℕ, List, All, not}
use Rattle.std.specs.Str.{bytes_eq}
use Rattle.std.specs.List.{filter}
use Rattle.std.specs.Map.{keys_of}
use Rattle.bisync_text.specs.Path.{IsPath, partial_name}
use Rattle.bisync_memory.proofs.folder_maps.list_folders.Given as goal

abbrev pub invariant-loop-name : goal.invariant-loop-name
invariant-loop-name l = (more : List (List ℕ))
    × (l.out.items ≡ l.initial.out.items ++ more)
    × All IsPath more
    × (filter (λ q. not (bytes_eq q partial_name)) (keys_of l.folders.entries) ≡ more ++ filter (λ q. not (bytes_eq q partial_name)) l.name-iterator)
