-- What planning asks of its caller.
use Rattle.std.specs.Prelude.{◌≡◌, ◌≤◌, ℕ, is_some, Some, Bool, true}
use Rattle.bisync_tree.specs.Window.{window_ns}
use Rattle.bisync_tree.specs.Rows.{PathBytes, Rows, look}
use Rattle.bisync_tree.specs.declared.windows.Window.{Window}
use Rattle.bisync_tree.specs.declared.entries.Entry.{Entry}
use Rattle.bisync_tree.specs.declared.entries.Compare.{Compare}

-- a stamp that a listing may have
pub record IsStamp (stamp : ℕ) : Type 0 where
  pub low : 1 ≤ stamp
  pub high : stamp ≤ 999_999_999_999_999_999

-- each entry has a digest exactly where digests are compared
pub record HasDigests (compare : Compare) (rows : Rows) : Type 0 where
  pub digest : (p : PathBytes) (e : Entry) → look rows p ≡ Some e → compare.hash ≡ is_some e.hash

-- times are compared no more finely than either side keeps them
pub record KeepsTimes (compare : Compare) (window1 window2 : Window) : Type 0 where
  pub one : window_ns window1 ≤ window_ns compare.window
  pub two : window_ns window2 ≤ window_ns compare.window

-- each listed path passes
pub record HasPassing (passes : PathBytes → Bool) (rows : Rows) : Type 0 where
  pub passing : (p : PathBytes) (e : Entry) → look rows p ≡ Some e → passes p ≡ true
