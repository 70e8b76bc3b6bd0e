-- What became of the paths in a side's base: which are gone, and which are still there. After `--max-delete` and "all files
-- changed" of rclone's manual page "bisync".
use Rattle.std.specs.Prelude.{Bool, true, false, List, filter, is_some}
use Rattle.std.specs.List.{list_all}
use Rattle.bisync_tree.specs.Rows.{PathBytes, Rows, keys, look}
use Rattle.bisync_tree.specs.Same.{class}
use Rattle.bisync_tree.specs.declared.entries.Compare.{Compare}
use Rattle.bisync_tree.specs.declared.classes.Class.{Class}
use Rattle.bisync_tree.specs.declared.classes.Class.TheVariants.{Quiet, Fresh, Gone}

abbrev pub is_gone : Class → Bool
is_gone Quiet = false
is_gone Fresh = false
is_gone Gone = true

abbrev pub is_fresh : Class → Bool
is_fresh Quiet = false
is_fresh Fresh = true
is_fresh Gone = false

-- what became of a path, of the side's base and of what it has now
abbrev pub class_at : Compare → Rows → Rows → PathBytes → Class
class_at c base now p = class c (look base p) (look now p)

-- the paths of the base that are Gone
abbrev pub gone_paths : Compare → Rows → Rows → List PathBytes
gone_paths c base now = filter (λ p. is_gone (class_at c base now p)) (keys base)

-- the paths of the base that are still there
abbrev pub kept_paths : Rows → Rows → List PathBytes
kept_paths base now = filter (λ p. is_some (look now p)) (keys base)

-- whether each path that is still there is Fresh
abbrev pub all_are_fresh : Compare → Rows → Rows → Bool
all_are_fresh c base now = list_all (λ p. is_fresh (class_at c base now p)) (kept_paths base now)
