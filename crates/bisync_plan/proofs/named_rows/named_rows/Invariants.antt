use Rattle.std.proofs.Common.{◌≡◌, drop}
use Rattle.bisync_tree.specs.Rows.{PathBytes, look}
use Rattle.bisync_filter.specs.Passing.{rules_pass}
use Rattle.bisync_plan.specs.CellRows.{either, named_look}
use Rattle.bisync_plan.proofs.named_rows.named_rows.Given as goal

abbrev pub invariant-loop-name : goal.invariant-loop-name
invariant-loop-name l = (p : PathBytes)
    → either (named_look (rules_pass l.rules) l.view l.side l.window (drop l.name-index l.given) p) (look l.rows.entries p)
    ≡ named_look (rules_pass l.rules) l.view l.side l.window l.given p
