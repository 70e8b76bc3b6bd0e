-- The guards in the order in which they are tested, and the first whose condition holds. After rclone's manual page "bisync";
-- the exact conditions and the order are this project's own.
use Rattle.std.specs.Prelude.{ℕ, Bool, true, false, not, ◌&&◌, ◌*◌, List, [], ◌∷◌, length, Option, Some, None, nat_lt, nat_le, if◌then◌else◌}
use Rattle.bisync_tree.specs.Rows.{Rows}
use Rattle.bisync_tree.specs.declared.entries.Compare.{Compare}
use Rattle.bisync_tree.specs.declared.options.GuardRule.{GuardRule}
use Rattle.bisync_tree.specs.declared.sides.Side.{Side}
use Rattle.bisync_tree.specs.declared.sides.Side.TheVariants.{One, Two}
use Rattle.bisync_tree.specs.declared.views.View.{View}
use Rattle.bisync_guard.specs.declared.guards.Guard.{Guard}
use Rattle.bisync_guard.specs.declared.guards.Guard.TheVariants.{CheckAccess, EmptyCurrent, TooManyDeletes, AllChanged}
use Rattle.bisync_guard.specs.CheckFiles.{check_files, missing_file}
use Rattle.bisync_guard.specs.BasePaths.{gone_paths, kept_paths, all_are_fresh}

-- where access is checked by files of a name: that there are none, or the first that one side lacks
abbrev pub check_access : Option (List ℕ) → Rows → Rows → Option Guard
check_access None now1 now2 = None
check_access (Some name) now1 now2 = missing_file now1 now2 (check_files name now1 now2)

-- nothing passes on the side now
abbrev pub empty_current : Side → Rows → Option Guard
empty_current side [] = Some (EmptyCurrent side)
empty_current side (r ∷ rs) = None

-- more of the base paths are gone than the limit, in percent, allows
abbrev pub deletes_over : GuardRule → Side → ℕ → ℕ → Option Guard
deletes_over guards side gone base =
    if not guards.force && nat_lt (guards.max_delete * base) (gone * 100) then Some (TooManyDeletes side gone base) else None

abbrev pub too_many_deletes : GuardRule → Compare → Side → Rows → Rows → Option Guard
too_many_deletes guards c side base now = deletes_over guards side (length (gone_paths c base now)) (length base)

-- some of the base paths are still there, and they are all Fresh
abbrev pub changed_all : GuardRule → Side → ℕ → Bool → Option Guard
changed_all guards side kept all_fresh = if not guards.force && nat_le 1 kept && all_fresh then Some (AllChanged side kept) else None

abbrev pub all_changed : GuardRule → Compare → Side → Rows → Rows → Option Guard
all_changed guards c side base now = changed_all guards side (length (kept_paths base now)) (all_are_fresh c base now)

-- each guard, where its condition holds
abbrev pub guards_in_order : GuardRule → Compare → View → List (Option Guard)
guards_in_order guards c view =
    check_access guards.check view.now1 view.now2
    ∷ empty_current One view.now1
    ∷ empty_current Two view.now2
    ∷ too_many_deletes guards c One view.base1 view.now1
    ∷ too_many_deletes guards c Two view.base2 view.now2
    ∷ all_changed guards c One view.base1 view.now1
    ∷ all_changed guards c Two view.base2 view.now2
    ∷ []

abbrev pub first_of : List (Option Guard) → Option Guard
first_of [] = None
first_of (None ∷ rest) = first_of rest
first_of (Some guard ∷ rest) = Some guard

-- the first guard whose condition holds
abbrev pub first_guard : GuardRule → Compare → View → Option Guard
first_guard guards c view = first_of (guards_in_order guards c view)

-- whether a guard tells a path
abbrev pub tells_path : Option Guard → Bool
tells_path None = false
tells_path (Some (CheckAccess side None)) = false
tells_path (Some (CheckAccess side (Some p))) = true
tells_path (Some (EmptyCurrent side)) = false
tells_path (Some (TooManyDeletes side gone n)) = false
tells_path (Some (AllChanged side n)) = false
