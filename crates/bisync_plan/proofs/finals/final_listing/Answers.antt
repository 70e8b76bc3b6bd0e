use Rattle.std.proofs.Common.{[], sym, ◌∙◌, ap, subst}
use Rattle.std.proofs.lemmas.Result.{IfOk-weaker}
use Rattle.bisync_tree.specs.Rows.{PathBytes, keys, AreRising}
use Rattle.bisync_model.specs.Finals.{final_entry}
use Rattle.bisync_model.specs.Views.{known_of}
use Rattle.bisync_filter.specs.Passing.{rules_pass}
use Rattle.bisync_plan.specs.CellRows.{kept_rows, named_look}
use Rattle.bisync_plan.specs.MergedRows.{merged}
use Rattle.bisync_plan.specs.Plans.{AreRowsOf}
use Rattle.bisync_plan.proofs.NamedRows.{named_are}
use Rattle.bisync_plan.proofs.FinalRows.{merged_rises, final_rows}
use Rattle.bisync_plan.proofs.finals.final_listing.Goals as goal

pub merged_listing-requires : goal.merged_listing-requires
merged_listing-requires c =
    let passes = rules_pass c.args.rules.now in
    let seen = c.cells_have_the_rules_of_their_paths.ensures c.args.conflict.now c.args.compare.now passes c.args.window1 c.args.window2 c.args.view.now c.requires.narrowed in
    let w = c.window_of-window.ensures in
    let looks = λ (p : PathBytes). c.in_ok-named.ensures.looks p ∙ ap (λ v. named_look passes c.args.view.now c.args.side v c.args.given.now p) w
    ∙ named_are c.args.conflict.now c.args.compare.now passes c.args.window1 c.args.window2 c.args.view.now c.args.side [] _ c.args.given.now c.requires.names p in
    record {
      rising = subst (λ v. AreRising (keys (merged c.in_ok-named.named.entries (kept_rows c.args.conflict.now c.args.compare.now v c.args.side c.args.view.now)))) (sym w)
          (merged_rises c.args.conflict.now c.args.compare.now passes c.args.window1 c.args.window2 c.args.view.now seen c.requires.narrowed c.requires.complete c.args.given.now c.args.side
          c.requires.names c.in_ok-named.named.entries c.in_ok-named.ensures.rising looks);
    }

pub returns : goal.returns
returns c =
    let passes = rules_pass c.args.rules.now in
    let seen = c.cells_have_the_rules_of_their_paths.ensures c.args.conflict.now c.args.compare.now passes c.args.window1 c.args.window2 c.args.view.now c.requires.narrowed in
    let w = c.window_of-window.ensures in
    let looks = λ (p : PathBytes). c.in_ok-named.ensures.looks p ∙ ap (λ v. named_look passes c.args.view.now c.args.side v c.args.given.now p) w
    ∙ named_are c.args.conflict.now c.args.compare.now passes c.args.window1 c.args.window2 c.args.view.now c.args.side [] _ c.args.given.now c.requires.names p in
    let rows = final_rows c.args.conflict.now c.args.compare.now passes c.args.window1 c.args.window2 c.args.view.now seen c.requires.narrowed c.requires.complete c.args.given.now c.args.side
    c.requires.names c.in_ok-named.named.entries c.in_ok-named.ensures.rising looks in
    IfOk-weaker c.merged_listing.result _ _
    (λ listing e. subst (λ rs. AreRowsOf (final_entry (known_of c.args.conflict.now c.args.compare.now passes c.args.window1 c.args.window2 c.args.view.now) c.args.given.now) c.args.side rs)
    (sym (e ∙ ap (λ v. merged c.in_ok-named.named.entries (kept_rows c.args.conflict.now c.args.compare.now v c.args.side c.args.view.now)) w)) rows)
    c.merged_listing.ensures
