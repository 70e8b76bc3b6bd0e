use Rattle.std.proofs.Common.{◌++◌, [], sym, ◌∙◌, ap}
use Rattle.std.proofs.lemmas.List.{append-nil}
use Rattle.std.specs.Prelude.{flat_map}
use Rattle.bisync_tree.specs.Walk.{listings, paths_of}
use Rattle.bisync_plan.specs.CellSteps.{copies_in}
use Rattle.bisync_plan.proofs.ResyncRows.{copies_are}
use Rattle.bisync_plan.proofs.steps.resync_steps.Goals as goal

pub returns-clause-plan : goal.returns-clause-plan
returns-clause-plan c = λ passes window1 window2 one two.
    sym (append-nil c.loop-cell.steps.items) ∙ ap (λ w. c.loop-cell.steps.items ++ flat_map (copies_in c.args.mode c.args.compare.now) w) (sym c.in_default.ensures.cell) ∙ c.loop-cell.invariant
    ∙ copies_are c.args.mode c.args.compare.now passes window1 window2 c.args.now1.now c.args.now2.now one two (paths_of (listings [] [] c.args.now1.now c.args.now2.now))
