-- When the condition of a guard holds, path by path, with exactly that side, path and numbers.
use Rattle.std.specs.Prelude.{◌≡◌, ◌<◌, ◌≤◌, ◌*◌, ℕ, true, false, List, [], length, Some, None, is_some, IsSomeAnd}
use Rattle.std.specs.Ordering.{nat_cmp}
use Rattle.std.specs.Cmp.Lexicographic.{slice_cmp}
use Rattle.std.specs.declared.cmp.Ordering.TheVariants.{Less}
use Rattle.bisync_text.specs.Path.{IsLastPart}
use Rattle.bisync_tree.specs.Side.{other}
use Rattle.bisync_tree.specs.Rows.{PathBytes, Rows, look}
use Rattle.bisync_tree.specs.declared.classes.Class.TheVariants.{Fresh}
use Rattle.bisync_tree.specs.declared.entries.Compare.{Compare}
use Rattle.bisync_tree.specs.declared.options.GuardRule.{GuardRule}
use Rattle.bisync_tree.specs.declared.sides.Side.{Side}
use Rattle.bisync_tree.specs.declared.sides.Side.TheVariants.{One, Two}
use Rattle.bisync_tree.specs.declared.views.View.{View}
use Rattle.bisync_guard.specs.declared.guards.Guard.{Guard}
use Rattle.bisync_guard.specs.declared.guards.Guard.TheVariants.{CheckAccess, EmptyCurrent, TooManyDeletes, AllChanged}
use Rattle.bisync_guard.specs.BasePaths.{class_at, gone_paths, kept_paths}

-- what passes in the base of a side
abbrev pub base_of : View → Side → Rows
base_of view One = view.base1
base_of view Two = view.base2

-- what passes on a side now
abbrev pub now_of : View → Side → Rows
now_of view One = view.now1
now_of view Two = view.now2

-- the first path with this last name that one side has and the other lacks, and this is the one that lacks it
pub record IsFirstMissing (view : View) (side : Side) (p : PathBytes) (name : List ℕ) : Type 0 where
  pub named : IsLastPart p name
  pub lacked : look (now_of view side) p ≡ None
  pub there : is_some (look (now_of view (other side)) p) ≡ true
  pub first : (q : PathBytes) → slice_cmp nat_cmp q p ≡ Less → IsLastPart q name → is_some (look view.now1 q) ≡ is_some (look view.now2 q)

-- neither side has a path with this last name
pub record IsNowhere (view : View) (name : List ℕ) : Type 0 where
  pub one : (p : PathBytes) → IsLastPart p name → look view.now1 p ≡ None
  pub two : (p : PathBytes) → IsLastPart p name → look view.now2 p ≡ None

-- gone of the n base paths of a side are Gone, which is more than the limit allows
pub record AreTooMany (guards : GuardRule) (c : Compare) (base now : Rows) (gone n : ℕ) : Type 0 where
  pub unforced : guards.force ≡ false
  pub gone_are : gone ≡ length (gone_paths c base now)
  pub base_are : n ≡ length base
  pub over : guards.max_delete * n < gone * 100

-- n base paths of a side are still there, at least one, and each of them is Fresh
pub record AreAllChanged (guards : GuardRule) (c : Compare) (base now : Rows) (n : ℕ) : Type 0 where
  pub unforced : guards.force ≡ false
  pub kept_are : n ≡ length (kept_paths base now)
  pub some : 1 ≤ n
  pub fresh : (p : PathBytes) → is_some (look base p) ≡ true → is_some (look now p) ≡ true → class_at c base now p ≡ Fresh

-- the condition of a guard holds
abbrev pub IsGuard : GuardRule → Compare → View → Guard → Type 0
IsGuard guards c view (CheckAccess side (Some p)) = IsSomeAnd guards.check (IsFirstMissing view side p)
IsGuard guards c view (CheckAccess One None) = IsSomeAnd guards.check (IsNowhere view)
IsGuard guards c view (CheckAccess Two None) = ⊥
IsGuard guards c view (EmptyCurrent side) = now_of view side ≡ []
IsGuard guards c view (TooManyDeletes side gone n) = AreTooMany guards c (base_of view side) (now_of view side) gone n
IsGuard guards c view (AllChanged side n) = AreAllChanged guards c (base_of view side) (now_of view side) n

-- the place of a guard in the order of tests
abbrev pub place : Guard → ℕ
place (CheckAccess side path) = 0
place (EmptyCurrent One) = 1
place (EmptyCurrent Two) = 2
place (TooManyDeletes One gone n) = 3
place (TooManyDeletes Two gone n) = 4
place (AllChanged One n) = 5
place (AllChanged Two n) = 6
