-- The case table: what a run does with a path, by what became of it on each side. After "unusual sync checks" of rclone's
-- manual page "bisync"; the nine cells are this project's own.
use Rattle.std.specs.Prelude.{Option, is_some, if◌then◌else◌}
use Rattle.bisync_tree.specs.Rows.{PathBytes}
use Rattle.bisync_tree.specs.Same.{same, class}
use Rattle.bisync_tree.specs.declared.sides.Side.{Side}
use Rattle.bisync_tree.specs.declared.sides.Side.TheVariants.{One, Two}
use Rattle.bisync_tree.specs.declared.entries.Entry.{Entry}
use Rattle.bisync_tree.specs.declared.entries.Compare.{Compare}
use Rattle.bisync_tree.specs.declared.classes.Class.{Class}
use Rattle.bisync_tree.specs.declared.classes.Class.TheVariants.{Quiet, Fresh, Gone}
use Rattle.bisync_tree.specs.declared.classes.Rule.{Rule}
use Rattle.bisync_tree.specs.declared.classes.Rule.TheVariants.{Nothing, Copy as CopyFrom, Delete as DeleteOn, Conflict}
use Rattle.bisync_model.specs.Known.{Known}

-- the rule of the classes on Path1 and Path2 and of the two entries now
abbrev pub table : Compare → Class → Class → Option Entry → Option Entry → Rule
table c Quiet Quiet now1 now2 = Nothing
table c Gone Gone now1 now2 = Nothing
table c Fresh Quiet now1 now2 = CopyFrom One
table c Fresh Gone now1 now2 = CopyFrom One
table c Quiet Fresh now1 now2 = CopyFrom Two
table c Gone Fresh now1 now2 = CopyFrom Two
table c Gone Quiet now1 now2 = if is_some now2 then DeleteOn Two else Nothing
table c Quiet Gone now1 now2 = if is_some now1 then DeleteOn One else Nothing
table c Fresh Fresh now1 now2 = if same c now1 now2 then Nothing else Conflict

-- what became of a passing path on a side since the last good run
abbrev pub class_now : Known → Side → PathBytes → Class
class_now known side p = class known.policy.compare (known.base side p) (known.now side p)

-- the rule of a path: nothing, where it doesn't pass
abbrev pub rule_at : Known → PathBytes → Rule
rule_at known p =
    if known.policy.passes p
    then table known.policy.compare (class_now known One p) (class_now known Two p) (known.now One p) (known.now Two p)
    else Nothing
