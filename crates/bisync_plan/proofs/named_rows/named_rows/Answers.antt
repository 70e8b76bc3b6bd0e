use Rattle.std.proofs.Common.{◌+◌, drop, sym, ◌∙◌, ap}
use Rattle.bisync_tree.specs.Rows.{look}
use Rattle.bisync_filter.specs.Passing.{rules_pass}
use Rattle.bisync_plan.specs.CellRows.{either, named_look}
use Rattle.bisync_plan.proofs.NamedRows.{first_left, name_added, name_passed_over, keys_rise}
use Rattle.bisync_plan.proofs.named_rows.named_rows.Goals as goal
use Rattle.bisync_plan.proofs.named_rows.named_rows.Goals.{in-Some+in_ok-copy+in_ok-insert, in_default}

pub loop-name-preserved : goal.loop-name-preserved
loop-name-preserved c = λ p.
    let passes = rules_pass c.args.rules.now in
    let split = first_left c.args.given.now c.loop-name.name-index c.name-item.result c.loop-name-test.true c.name-item.is in
    elim c.match-entry_of.branch [
      | in-Some+in_ok-copy+in_ok-insert w ↦
          ap (λ r. either (named_look passes c.args.view.now c.args.side c.args.window (drop (c.loop-name.name-index + 1) c.args.given.now) p) (look r.entries p)) w.rows-is
          ∙ name_added passes c.args.view.now c.args.side c.args.window c.args.given.now _ _ c.name-item.result _ _ w.in-Some.entry _
          split w.in-Some.ensures w.in_ok-copy.ensures w.in_ok-insert.ensures.updates.0 c.loop-name.invariant p
      | in_default w ↦
          ap (λ r. either (named_look passes c.args.view.now c.args.side c.args.window (drop (c.loop-name.name-index + 1) c.args.given.now) p) (look r.entries p)) w.rows-is
          ∙ name_passed_over passes c.args.view.now c.args.side c.args.window c.args.given.now _ _ c.name-item.result _
          split (sym w.in_default.is ∙ c.entry_of.ensures) c.loop-name.invariant p
    ]

pub returns-clause-rising : goal.returns-clause-rising
returns-clause-rising c = keys_rise c.loop-name.rows.entries c.len.ensures.ordered
