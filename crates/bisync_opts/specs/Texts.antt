-- Tests of texts, and how they are cut.
use Rattle.std.specs.Prelude.{ℕ, ◌==◌, ◌&&◌, Bool, not, List, length, Option, Some, None, nat_lt, nat_le, if◌then◌else◌}
use Rattle.std.specs.List.{list_all, position_or_len, before_first, after_first}
use Rattle.std.specs.Char.{is_ascii_digit}
use Rattle.std.specs.Str.{bytes_eq, is_utf8}
use Rattle.std.specs.Str.Parse.{digits_value}
use Rattle.bisync_text.specs.Path.{is_name, names, partial_name}

abbrev pub Text : Type 0
Text = List ℕ

-- what stands before and after the first such byte, where there is one
abbrev pub cut_at : ℕ → Text → Option (Text × Text)
cut_at byte text =
    if nat_lt (position_or_len (λ b. b == byte) text) (length text)
    then Some (before_first (λ b. b == byte) text, after_first (λ b. b == byte) text)
    else None

-- one to so many decimal digits
abbrev pub is_number : ℕ → Text → Bool
is_number most text = nat_le 1 (length text) && nat_le (length text) most && list_all is_ascii_digit text

-- the number in one to so many decimal digits
abbrev pub number : ℕ → Text → Option ℕ
number most text = if is_number most text then Some (digits_value 10 text) else None

-- a path, as a test
abbrev pub is_path : Text → Bool
is_path text =
    list_all is_name (names text)
    && is_utf8 text
    && nat_le (length text) 4096
    && not (bytes_eq text partial_name)
