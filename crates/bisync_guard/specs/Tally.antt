-- What a walk counts on each side, and what it sees of check files.
use Rattle.std.specs.Prelude.{◌≡◌, ◌&&◌, ◌||◌, not, ℕ, Bool, List, [], ◌∷◌, length, Option, Some, None, is_some, if◌then◌else◌}
use Rattle.std.specs.Option.{option_or}
use Rattle.bisync_tree.specs.Rows.{Rows}
use Rattle.bisync_tree.specs.Same.{class}
use Rattle.bisync_tree.specs.Walk.{CellValue}
use Rattle.bisync_tree.specs.declared.entries.Entry.{Entry}
use Rattle.bisync_tree.specs.declared.entries.Compare.{Compare}
use Rattle.bisync_tree.specs.declared.sides.Side.TheVariants.{One}
use Rattle.bisync_guard.specs.declared.guards.Guard.{Guard}
use Rattle.bisync_guard.specs.declared.guards.Guard.TheVariants.{CheckAccess}
use Rattle.bisync_guard.specs.declared.counts.Counts.{Counts}
use Rattle.bisync_guard.specs.declared.access.Access.{Access}
use Rattle.bisync_guard.specs.declared.access.Access.TheVariants.{Unseen, Whole, Missing}
use Rattle.bisync_guard.specs.BasePaths.{is_gone, is_fresh, gone_paths, kept_paths, all_are_fresh}
use Rattle.bisync_guard.specs.CheckFiles.{is_check_file, missing_at}

-- whether an entry of the base is gone
abbrev pub is_gone_entry : Compare → Option Entry → Option Entry → Bool
is_gone_entry c base now = is_gone (class c base now)

-- whether an entry of the base is still there
abbrev pub is_kept_entry : Option Entry → Option Entry → Bool
is_kept_entry base now = is_some base && is_some now

-- whether it is Fresh, where it is still there
abbrev pub is_fresh_if_kept : Compare → Option Entry → Option Entry → Bool
is_fresh_if_kept c base now = not (is_kept_entry base now) || is_fresh (class c base now)

abbrev pub number : Bool → ℕ
number b = if b then 1 else 0

-- the counts of a side
pub record AreCounts (c : Compare) (base now : Rows) (counts : Counts) : Type 0 where
  pub base_are : counts.base ≡ length base
  pub gone_are : counts.gone ≡ length (gone_paths c base now)
  pub kept_are : counts.kept ≡ length (kept_paths base now)
  pub fresh_are : counts.all_fresh ≡ all_are_fresh c base now

-- the guard of what was seen of check files
abbrev pub guard_of : Access → Option Guard
guard_of Unseen = Some (CheckAccess One None)
guard_of Whole = None
guard_of (Missing side path) = Some (CheckAccess side (Some path.now))

-- that a cell's path is a check file which one side lacks
abbrev pub missing_in : List ℕ → CellValue → Option Guard
missing_in name cell = if is_check_file name cell.path then missing_at cell.path cell.now1 cell.now2 else None

abbrev pub first_missing_in : List ℕ → List CellValue → Option Guard
first_missing_in name [] = None
first_missing_in name (cell ∷ cells) = option_or (missing_in name cell) (first_missing_in name cells)

-- whether a cell's path is a check file of a side
abbrev pub is_check_cell : List ℕ → CellValue → Bool
is_check_cell name cell = is_check_file name cell.path && (is_some cell.now1 || is_some cell.now2)

-- the guard of the check files in cells
abbrev pub missing_file_in : List ℕ → List CellValue → Option Guard
missing_file_in name [] = Some (CheckAccess One None)
missing_file_in name (cell ∷ cells) = if is_check_cell name cell then first_missing_in name (cell ∷ cells) else missing_file_in name cells

-- the guard of what was seen and of the cells still to come
abbrev pub guard_after : List ℕ → Access → List CellValue → Option Guard
guard_after name Unseen cells = missing_file_in name cells
guard_after name Whole cells = first_missing_in name cells
guard_after name (Missing side path) cells = Some (CheckAccess side (Some path.now))
