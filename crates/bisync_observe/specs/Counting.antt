-- How many names there are, and how many bytes they have.
use Rattle.std.specs.Prelude.{◌≡◌, ◌<◌, ◌≤◌, ◌⊎◌, ◌^◌, ◌-◌, ℕ, List, length, min}
use Rattle.std.specs.List.{sum_by}
use Rattle.bisync_tree.specs.Rows.{PathBytes, paths_in}
use Rattle.bisync_tree.specs.Tree.{Tree}
use Rattle.bisync_tree.specs.declared.options.Limits.{Limits}

-- the bytes of the names, or the greatest `u64` where they are more
abbrev pub name_bytes : List PathBytes → ℕ
name_bytes names = min (sum_by length names) (2 ^ 64 - 1)

-- one number is over its limit
abbrev pub IsOver : Limits → ℕ → ℕ → Type 0
IsOver limits files bytes = (limits.files < files) ⊎ (limits.names < bytes)

-- neither number is over its limit
pub record IsWithin (limits : Limits) (files bytes : ℕ) : Type 0 where
  pub few : files ≤ limits.files
  pub short : bytes ≤ limits.names

-- that many files with that many bytes of names are in the tree
pub record AreOfTree (tree : Tree) (files bytes : ℕ) : Type 0 where
  pub count : files ≡ length (paths_in tree)
  pub sum : bytes ≡ name_bytes (paths_in tree)
