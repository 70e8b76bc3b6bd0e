-- How a duration is read from left to right.
use Rattle.std.specs.Prelude.{ℕ, ◌&&◌, nat_le, if◌then◌else◌, List, Option, Some, None}
use Rattle.std.specs.List.{prefix_len}
use Rattle.bisync_text.specs.Digits.{◌>>=◌, is_digit, number_at, byte_at}

-- a number in one to six digits and its unit, and the bytes after them
unfoldable pub count_at : ℕ → List ℕ → Option (ℕ × List ℕ)
count_at unit bytes =
    if nat_le 1 (prefix_len is_digit bytes) && nat_le (prefix_len is_digit bytes) 6 then (do
      n ← number_at (prefix_len is_digit bytes) bytes
      rest ← byte_at unit n.1
      Some (n.0, rest))
    else None

-- what was found, or a count of nothing before all the bytes
abbrev pub found_or_all : List ℕ → Option (ℕ × List ℕ) → ℕ × List ℕ
found_or_all bytes (Some found) = found
found_or_all bytes None = (0, bytes)

-- the part of that unit at the front, which may be left out, and the bytes after it
unfoldable pub part_at : ℕ → List ℕ → ℕ × List ℕ
part_at unit bytes = found_or_all bytes (count_at unit bytes)
