-- When two entries are the same by the fields that are compared, and the class that follows.
use Rattle.std.specs.Prelude.{◌≡◌, ◌||◌, ◌&&◌, ◌==◌, ℕ, List, Bool, true, false, not, Option, Some, None, bytes_eq, if◌then◌else◌}
use Rattle.std.specs.Ordering.{int_eq}
use Rattle.bisync_tree.specs.Window.{window_number}
use Rattle.bisync_tree.specs.Rows.{PathBytes}
use Rattle.bisync_tree.specs.declared.entries.Entry.{Entry}
use Rattle.bisync_tree.specs.declared.entries.Compare.{Compare}
use Rattle.bisync_tree.specs.declared.classes.Class.{Class}
use Rattle.bisync_tree.specs.declared.classes.Class.TheVariants.{Quiet, Fresh, Gone}

-- an absent digest equals an absent digest alone
abbrev pub same_digest : Option (List ℕ) → Option (List ℕ) → Bool
same_digest None None = true
same_digest (Some d) (Some e) = bytes_eq d e
same_digest None (Some e) = false
same_digest (Some d) None = false

-- equal in each compared field, where times are equal if the numbers of their windows are
abbrev pub equal_entries : Compare → Entry → Entry → Bool
equal_entries c e f =
    (not c.size || e.size == f.size)
    && (not c.time || int_eq (window_number c.window e.time) (window_number c.window f.time))
    && (not c.hash || same_digest e.hash f.hash)

-- both are absent, or both are there and equal
abbrev pub same : Compare → Option Entry → Option Entry → Bool
same c None None = true
same c (Some e) (Some f) = equal_entries c e f
same c None (Some f) = false
same c (Some e) None = false

-- two listings, or two trees seen as listings, are the same at every path
abbrev pub Agree : Compare → (PathBytes → Option Entry) → (PathBytes → Option Entry) → Type 0
Agree c one two = (p : PathBytes) → same c (one p) (two p) ≡ true

-- what became of a path on a side, from its base entry and its entry now
abbrev pub class : Compare → Option Entry → Option Entry → Class
class c base None = if same c base None then Quiet else Gone
class c base (Some e) = if same c base (Some e) then Quiet else Fresh
