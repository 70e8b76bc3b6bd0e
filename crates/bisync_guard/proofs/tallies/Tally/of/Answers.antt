use Rattle.std.proofs.Common.{sym, ◌∙◌, ap, subst}
use Rattle.bisync_tree.specs.Walk.{seen, listings_of}
use Rattle.bisync_guard.specs.Tally.{guard_after, missing_file_in}
use Rattle.bisync_guard.proofs.Counting.{AreSoFar, gone_fits, kept_fits, start_one, start_two}
use Rattle.bisync_guard.proofs.Seeing.{at_end, if_some}
use Rattle.bisync_guard.proofs.WalkedFiles.{files_walked}
use Rattle.bisync_guard.proofs.tallies.Tally.of.Goals as goal

pub loop-cell-init : goal.loop-cell-init
loop-cell-init c =
    let l = listings_of c.args.view.now in
    let n = c.new-one.ensures in
    let m = c.new-two.ensures in
    record {
      one = subst (λ w. AreSoFar c.args.compare.now c.args.view.now.base1 c.args.view.now.now1 (λ cell. cell.base1) (λ cell. cell.now1) w c.new-one.result) (sym c.new-walk.ensures.cells)
          (start_one c.args.compare.now l c.new-one.result c.new-walk.ensures.rising n.base n.fits n.gone n.kept n.all_fresh);
      two = subst (λ w. AreSoFar c.args.compare.now c.args.view.now.base2 c.args.view.now.now2 (λ cell. cell.base2) (λ cell. cell.now2) w c.new-two.result) (sym c.new-walk.ensures.cells)
          (start_two c.args.compare.now l c.new-two.result c.new-walk.ensures.rising m.base m.fits m.gone m.kept m.all_fresh);
      seen = λ name asked. ap (missing_file_in name) c.new-walk.ensures.cells;
    }

pub add-requires-clause-gone : goal.add-requires-clause-gone
add-requires-clause-gone c = gone_fits (seen c.in-Some.cell) _ c.loop-cell.invariant.one c.in-Some.ensures.cell

pub add-requires-clause-kept : goal.add-requires-clause-kept
add-requires-clause-kept c = kept_fits (seen c.in-Some.cell) _ c.loop-cell.invariant.one c.in-Some.ensures.cell

pub add-requires-in-Some-clause-gone : goal.add-requires-in-Some-clause-gone
add-requires-in-Some-clause-gone c = gone_fits (seen c.in-Some.cell) _ c.loop-cell.invariant.two c.in-Some.ensures.cell

pub add-requires-in-Some-clause-kept : goal.add-requires-in-Some-clause-kept
add-requires-in-Some-clause-kept c = kept_fits (seen c.in-Some.cell) _ c.loop-cell.invariant.two c.in-Some.ensures.cell

pub returns-clause-access : goal.returns-clause-access
returns-clause-access c = if_some _ _ (λ name asked.
    at_end name c.loop-cell.access
    ∙ ap (guard_after name c.loop-cell.access) (sym c.in_default.ensures.cell)
    ∙ c.loop-cell.invariant.seen name asked
    ∙ files_walked name (listings_of c.args.view.now))
