-- Two lists of rows in byte order as one.
use Rattle.std.specs.Prelude.{Bool, false, [], ◌∷◌, ◌++◌, if◌then◌else◌}
use Rattle.std.specs.Ordering.{nat_cmp, is_lt}
use Rattle.std.specs.Cmp.Lexicographic.{slice_cmp}
use Rattle.bisync_tree.specs.Rows.{PathBytes, Rows}

-- whether the first row comes before the path
abbrev pub begins_before : PathBytes → Rows → Bool
begins_before p [] = false
begins_before p (r ∷ rs) = is_lt (slice_cmp nat_cmp r.0 p)

-- the rows before a path, and the others
abbrev pub rows_before : PathBytes → Rows → Rows
rows_before p [] = []
rows_before p (r ∷ rs) = if is_lt (slice_cmp nat_cmp r.0 p) then r ∷ rows_before p rs else []

abbrev pub rows_from : PathBytes → Rows → Rows
rows_from p [] = []
rows_from p (r ∷ rs) = if is_lt (slice_cmp nat_cmp r.0 p) then rows_from p rs else r ∷ rs

-- the named rows, with the other rows in their places
abbrev pub merged : Rows → Rows → Rows
merged named [] = named
merged named (r ∷ rs) = rows_before r.0 named ++ r ∷ merged (rows_from r.0 named) rs
