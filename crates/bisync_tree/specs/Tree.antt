-- A tree is a finite map from paths to files.
use Rattle.std.specs.Prelude.{ℕ, List, length, Option, Some, None, if◌then◌else◌}
use Rattle.std.specs.Ordering.{nat_cmp}
use Rattle.std.specs.Cmp.Lexicographic.{slice_cmp}
use Rattle.std.specs.FinMap as finmap
use Rattle.std.specs.FinMap.{FinMap}
use Rattle.md5.specs.Md5.{md5}
use Rattle.bisync_tree.specs.Window.{brought_time}
use Rattle.bisync_tree.specs.declared.windows.Window.{Window}
use Rattle.bisync_tree.specs.declared.entries.Entry.{Entry}
use Rattle.bisync_tree.specs.declared.entries.Compare.{Compare}
use Rattle.bisync_tree.specs.declared.files.File.{File}

-- a finite map from the bytes of paths, in byte order
abbrev pub PathMap : Type 0 → Type 0
PathMap X = FinMap (slice_cmp nat_cmp) X

abbrev pub Tree : Type 0
Tree = PathMap File

abbrev pub file_at : Tree → List ℕ → Option File
file_at tree path = finmap.get tree path

-- the tree with this file at the path
abbrev pub put : Tree → List ℕ → File → Tree
put tree path file = finmap.insert tree path file

abbrev pub without : Tree → List ℕ → Tree
without tree path = finmap.remove tree path

-- a file as it comes to a remote that keeps times in this window
abbrev pub brought : Window → File → File
brought w file = record { bytes = file.bytes; time = brought_time w file.time }

-- what a listing keeps of a file: a digest exactly where digests are compared
abbrev pub entry : Compare → File → Entry
entry c file = record { size = length file.bytes; time = file.time; hash = if c.hash then Some (md5 file.bytes) else None }
