-- Which file of a conflict wins, and which gets a name. After `--conflict-resolve` and `--conflict-loser` of rclone's manual
-- page "bisync"; that windows of time decide, that a tie has no winner, and that times and sizes decide also where they
-- aren't compared, is this project's own.
use Rattle.std.specs.Prelude.{Bool, true, false, ◌&&◌, nat_lt, int_lt, Option, Some, None, ℕ, pos}
use Rattle.bisync_tree.specs.Side.{other, is_side}
use Rattle.bisync_tree.specs.Window.{window_number}
use Rattle.bisync_tree.specs.Rows.{PathBytes}
use Rattle.bisync_tree.specs.declared.sides.Side.{Side}
use Rattle.bisync_tree.specs.declared.sides.Side.TheVariants.{One, Two}
use Rattle.bisync_tree.specs.declared.windows.Window.{Window}
use Rattle.bisync_tree.specs.declared.entries.Entry.{Entry}
use Rattle.bisync_tree.specs.declared.classes.Rule.{Rule}
use Rattle.bisync_tree.specs.declared.classes.Rule.TheVariants.{Nothing, Copy as CopyFrom, Delete as DeleteOn, Conflict}
use Rattle.bisync_tree.specs.declared.options.Prefer.{Prefer}
use Rattle.bisync_tree.specs.declared.options.Prefer.TheVariants.{Nobody, Path1, Path2, Newer, Older, Larger, Smaller}
use Rattle.bisync_tree.specs.declared.options.Loser.{Loser}
use Rattle.bisync_tree.specs.declared.options.Loser.TheVariants.{Num, Pathname, Delete}
use Rattle.bisync_model.specs.Known.{Known}
use Rattle.bisync_model.specs.Table.{rule_at}

-- the side that is ahead of the other, if one is
abbrev pub ahead : Bool → Bool → Option Side
ahead true two = Some One
ahead false true = Some Two
ahead false false = None

-- the side whose file wins, of the entries on Path1 and Path2
abbrev pub winner : Prefer → Window → Entry → Entry → Option Side
winner Nobody w one two = None
winner Path1 w one two = Some One
winner Path2 w one two = Some Two
winner Newer w one two =
    ahead (int_lt (window_number w two.time) (window_number w one.time)) (int_lt (window_number w one.time) (window_number w two.time))
winner Older w one two =
    ahead (int_lt (window_number w one.time) (window_number w two.time)) (int_lt (window_number w two.time) (window_number w one.time))
winner Larger w one two = ahead (nat_lt two.size one.size) (nat_lt one.size two.size)
winner Smaller w one two = ahead (nat_lt one.size two.size) (nat_lt two.size one.size)

-- the same of entries that may be absent, where nobody wins
abbrev pub winner_of : Prefer → Window → Option Entry → Option Entry → Option Side
winner_of prefer w (Some one) (Some two) = winner prefer w one two
winner_of prefer w (Some one) None = None
winner_of prefer w None two = None

-- the winner of a conflict at a path
abbrev pub winner_at : Known → PathBytes → Option Side
winner_at known p = winner_of known.policy.prefer known.policy.compare.window (known.now One p) (known.now Two p)

-- whether a side's file gets a name in a conflict with this winner: both losers do where nobody wins, and else the
-- winner's opposite, but where losers are deleted
abbrev pub gets_name : Loser → Option Side → Side → Bool
gets_name loser None side = true
gets_name Num (Some winner) side = is_side side (other winner)
gets_name Pathname (Some winner) side = is_side side (other winner)
gets_name Delete (Some winner) side = false

-- whether a rule is a conflict
abbrev pub is_conflict : Rule → Bool
is_conflict Conflict = true
is_conflict Nothing = false
is_conflict (CopyFrom from) = false
is_conflict (DeleteOn on) = false

-- whether the side's file at the path is a loser that gets a name
abbrev pub is_named_loser : Known → PathBytes → Side → Bool
is_named_loser known p side = is_conflict (rule_at known p) && gets_name known.policy.loser (winner_at known p) side

-- an entry without bytes of that time, in nanoseconds, for examples
abbrev pub listed_at : ℕ → Entry
listed_at time = record { size = 0; time = pos time; hash = None }
