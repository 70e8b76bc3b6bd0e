-- What is left of a line of the filters file.
-- Codes of bytes: 9 is a tab, 10 a newline, 13 a carriage return, 32 a space.
use Rattle.std.specs.Prelude.{◌==◌, ◌||◌, ◌-◌, ℕ, Bool, List, length, slice_index, take, drop, if◌then◌else◌}
use Rattle.std.specs.List.{slice_split, prefix_len, suffix_len}

-- a text, cut at its newlines
abbrev pub lines : List ℕ → List (List ℕ)
lines text = slice_split (λ b. b == 10) text

-- a line without one final carriage return
abbrev pub without_return : List ℕ → List ℕ
without_return line = if slice_index line (length line - 1) == 13 then take (length line - 1) line else line

abbrev pub is_blank : ℕ → Bool
is_blank b = b == 32 || b == 9

-- without spaces and tabs at both ends
abbrev pub trimmed : List ℕ → List ℕ
trimmed text =
    let rest = drop (prefix_len is_blank text) text in
    take (length rest - suffix_len is_blank rest) rest

abbrev pub stripped : List ℕ → List ℕ
stripped line = trimmed (without_return line)
