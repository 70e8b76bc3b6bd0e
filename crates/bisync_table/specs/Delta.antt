-- How a path changed since the last good run. The order of tests is this project's own.
use Rattle.std.specs.Prelude.{◌==◌, not, ◌&&◌, int_lt, Option, Some, None, if◌then◌else◌}
use Rattle.bisync_tree.specs.Window.{window_number}
use Rattle.bisync_tree.specs.Same.{same}
use Rattle.bisync_tree.specs.declared.entries.Compare.{Compare}
use Rattle.bisync_tree.specs.declared.entries.Entry.{Entry}
use Rattle.bisync_table.specs.declared.deltas.Delta.{Delta}
use Rattle.bisync_table.specs.declared.deltas.Delta.TheVariants.{New, Newer, Older, Size, Hash, Deleted}

-- the first compared field in which two entries differ
abbrev pub difference : Compare → Entry → Entry → Delta
difference c base now =
    if c.time && int_lt (window_number c.window base.time) (window_number c.window now.time) then Newer
    else if c.time && int_lt (window_number c.window now.time) (window_number c.window base.time) then Older
    else if c.size && not (base.size == now.size) then Size
    else Hash

abbrev pub change : Compare → Option Entry → Option Entry → Delta
change c base None = Deleted
change c None (Some now) = New
change c (Some base) (Some now) = difference c base now

-- nothing, where the two entries are the same
abbrev pub delta_of : Compare → Option Entry → Option Entry → Option Delta
delta_of c base now = if same c base now then None else Some (change c base now)
