-- Check files: files of one name, which both sides are to have at the same paths. After `--check-access` of rclone's manual
-- page "bisync"; which path is told is this project's own.
use Rattle.std.specs.Prelude.{ℕ, Bool, List, [], ◌∷◌, Option, Some, None, ◌==◌, bytes_eq, filter, option_map}
use Rattle.std.specs.List.{after_last}
use Rattle.std.specs.Option.{option_or}
use Rattle.bisync_tree.specs.Rows.{PathBytes, Rows, keys, look}
use Rattle.bisync_tree.specs.Walk.{with_paths}
use Rattle.bisync_tree.specs.declared.entries.Entry.{Entry}
use Rattle.bisync_tree.specs.declared.sides.Side.{Side}
use Rattle.bisync_tree.specs.declared.sides.Side.TheVariants.{One, Two}
use Rattle.bisync_guard.specs.declared.guards.Guard.{Guard}
use Rattle.bisync_guard.specs.declared.guards.Guard.TheVariants.{CheckAccess}

-- whether this is the last name of a path
abbrev pub is_check_file : List ℕ → PathBytes → Bool
is_check_file name p = bytes_eq (after_last (λ b. b == 47) p) name

-- the paths of that last name on either side, in byte order
abbrev pub check_files : List ℕ → Rows → Rows → List PathBytes
check_files name now1 now2 = filter (is_check_file name) (with_paths (keys now1) (with_paths (keys now2) []))

-- the side that lacks what the other has
abbrev pub lacking_side : Option Entry → Option Entry → Option Side
lacking_side None None = None
lacking_side None (Some e) = Some One
lacking_side (Some e) None = Some Two
lacking_side (Some e) (Some f) = None

-- that a side lacks this path, which the other has
abbrev pub missing_at : PathBytes → Option Entry → Option Entry → Option Guard
missing_at p now1 now2 = option_map (λ side. CheckAccess side (Some p)) (lacking_side now1 now2)

-- the first of these paths that one side lacks
abbrev pub first_missing : Rows → Rows → List PathBytes → Option Guard
first_missing now1 now2 [] = None
first_missing now1 now2 (p ∷ ps) = option_or (missing_at p (look now1 p) (look now2 p)) (first_missing now1 now2 ps)

-- of all check files: that there are none, or the first that one side lacks
abbrev pub missing_file : Rows → Rows → List PathBytes → Option Guard
missing_file now1 now2 [] = Some (CheckAccess One None)
missing_file now1 now2 (p ∷ ps) = first_missing now1 now2 (p ∷ ps)
