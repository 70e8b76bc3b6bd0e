-- What a run looks at on its two sides.
use Rattle.std.specs.Prelude.{Bool, List, [], length}
use Rattle.bisync_tree.specs.Window.{coarser}
use Rattle.bisync_tree.specs.Tree.{Tree}
use Rattle.bisync_tree.specs.Rows.{PathBytes, Rows, listing_of, paths_in}
use Rattle.bisync_tree.specs.Walk.{listings, paths_of}
use Rattle.bisync_tree.specs.declared.windows.Window.{Window}
use Rattle.bisync_tree.specs.declared.entries.Compare.{Compare}
use Rattle.bisync_tree.specs.declared.options.Limits.{Limits}
use Rattle.bisync_tree.specs.declared.options.Prefer.{Prefer}
use Rattle.bisync_filter.specs.Passing.{rules_pass}
use Rattle.bisync_filter.specs.declared.rule_lists.Rule.{Rule}
use Rattle.bisync_model.specs.Trees.{Trees, trees_of}
use Rattle.bisync_model.specs.Known.{Known}
use Rattle.bisync_model.specs.Views.{resync_known_of}
use Rattle.bisync_model.specs.Resync.{resync_outcome}
use Rattle.bisync_device.specs.Remote.{RemoteState}
use Rattle.bisync_observe.specs.Counting.{IsWithin, name_bytes}

-- which paths pass, what is compared and by which window, both trees, and the windows in which they keep times
pub record Sides : Type 0 where
  pub passes : PathBytes → Bool
  pub compare : Compare
  pub one : Tree
  pub two : Tree
  pub window1 : Window
  pub window2 : Window

-- the compared fields, with the coarsest of the three windows
abbrev pub compare_in : Compare → Window → Window → Compare
compare_in compare window1 window2 =
    record { size = compare.size; time = compare.time; hash = compare.hash; window = coarser (coarser compare.window window1) window2 }

abbrev pub sides_of : Compare → List Rule → RemoteState → RemoteState → Sides
sides_of compare rules one two = record {
  passes = rules_pass rules;
  compare = compare_in compare one.window two.window;
  one = one.tree;
  two = two.tree;
  window1 = one.window;
  window2 = two.window;
}

-- the files of both sides
abbrev pub start_of : Sides → Trees
start_of s = trees_of s.one s.two

-- the listings of both sides
abbrev pub listed1 : Sides → Rows
listed1 s = listing_of s.compare s.passes s.one

abbrev pub listed2 : Sides → Rows
listed2 s = listing_of s.compare s.passes s.two

-- # A resync by a mode

abbrev pub resync_known : Prefer → Sides → Known
resync_known mode s = resync_known_of mode s.compare s.passes s.window1 s.window2 (listed1 s) (listed2 s)

abbrev pub resync_paths : Sides → List PathBytes
resync_paths s = paths_of (listings [] [] (listed1 s) (listed2 s))

-- what a resync leaves on both sides
abbrev pub resync_end : Prefer → Sides → Trees
resync_end mode s = resync_outcome (resync_known mode s) (start_of s)

-- # Limits

-- a tree has no more files, and no more bytes of names, than may be listed
abbrev pub IsListable : Limits → Tree → Type 0
IsListable limits tree = IsWithin limits (length (paths_in tree)) (name_bytes (paths_in tree))
