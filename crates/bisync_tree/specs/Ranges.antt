-- The values that options may have. After the options of rclone's manual page "bisync"; the bounds are this project's own.
use Rattle.std.specs.Prelude.{◌≤◌, ◌≤ℤ◌, ◌||◌, ◌&&◌, ◌==◌, not, ℕ, ℤ, pos, ⊤, Bool, List, length, nat_le, Option, Some, None, IsTrue, IsUtf8}
use Rattle.std.specs.List.{list_all}
use Rattle.bisync_tree.specs.declared.entries.Compare.{Compare}
use Rattle.bisync_tree.specs.declared.options.ConflictRule.{ConflictRule}
use Rattle.bisync_tree.specs.declared.options.GuardRule.{GuardRule}

-- at least one field is compared
abbrev pub ComparesSome : Compare → Type 0
ComparesSome compare = IsTrue (compare.size || compare.time || compare.hash)

-- a byte that may stand in a suffix: no `/`, no `,` and no NUL
abbrev pub is_suffix_byte : ℕ → Bool
is_suffix_byte b = not (b == 47 || b == 44 || b == 0)

-- 1 to 64 such bytes
abbrev pub is_suffix : List ℕ → Bool
is_suffix text = nat_le 1 (length text) && nat_le (length text) 64 && list_all is_suffix_byte text

-- UTF-8 of 1 to 64 bytes without `/`, `,` and NUL
pub record IsSuffix (text : List ℕ) : Type 0 where
  pub utf8 : IsUtf8 text
  pub form : IsTrue (is_suffix text)

pub record HasSuffixes (rule : ConflictRule) : Type 0 where
  pub one : IsSuffix rule.suffix1
  pub two : IsSuffix rule.suffix2

abbrev pub HasPercent : GuardRule → Type 0
HasPercent rule = rule.max_delete ≤ 100

-- two minutes, in nanoseconds
abbrev pub least_lock : ℕ
least_lock = 120_000_000_000

-- a lock holds at least two minutes, where it doesn't hold for ever
abbrev pub IsLongEnough : Option ℤ → Type 0
IsLongEnough None = ⊤
IsLongEnough (Some lock) = pos least_lock ≤ℤ lock
