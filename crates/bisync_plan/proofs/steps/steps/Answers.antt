use Rattle.std.proofs.Common.{◌++◌, [], refl, ◌∙◌, ap}
use Rattle.std.specs.Prelude.{flat_map}
use Rattle.bisync_tree.specs.Walk.{cells, paths_of, listings_of}
use Rattle.bisync_tree.proofs.WalkLemmas.{rising_paths}
use Rattle.bisync_plan.specs.CellSteps.{deletes_in}
use Rattle.bisync_plan.proofs.StepsOfCells.{deletes_are, moves_are}
use Rattle.bisync_plan.proofs.steps.steps.Goals as goal

pub returns : goal.returns
returns c = λ passes window1 window2 narrow names.
    let l = listings_of c.args.view.now in
    let seen = c.cells_have_the_rules_of_their_paths.ensures c.args.conflict.now c.args.compare.now passes window1 window2 c.args.view.now narrow in
    c.in_ok-push_all_moves.ensures
    ∙ (λ i. (c.in_ok-push_all_deletes.ensures ∙ ap (λ s. s ++ flat_map (deletes_in c.args.compare.now) (cells l)) c.new-steps.ensures.items ∙ deletes_are c.args.conflict.now c.args.compare.now passes window1 window2 c.args.view.now seen (paths_of l)) i
    ++ moves_are c.args.conflict.now c.args.compare.now passes window1 window2 c.args.view.now seen c.args.given.now (paths_of l) (rising_paths l) [] c.args.given.now names (λ q s h. refl) i)
