use Rattle.std.proofs.Common.{◌+◌, [], ◌∷◌, ◌++◌, drop, sym, ◌∙◌, ap}
use Rattle.bisync_tree.specs.Rows.{passing}
use Rattle.bisync_filter.specs.Passing.{rules_pass}
use Rattle.bisync_plan.proofs.ListedParts.{passing_left, passed_over}
use Rattle.bisync_plan.proofs.listed_views.part.Goals as goal
use Rattle.bisync_plan.proofs.listed_views.part.Goals.{then-passes+else-not-may_push+in_ok-copy+in_ok-push, else-passes}

pub loop-i-preserved : goal.loop-i-preserved
loop-i-preserved c =
    let passes = rules_pass c.args.rules.now in
    elim c.if-passes.branch [
      | then-passes+else-not-may_push+in_ok-copy+in_ok-push w ↦
          ap (λ l. l ++ passing passes (drop (c.loop-i.i + 1) c.args.listing.now)) (w.part-is ∙ w.in_ok-push.ensures.ok ∙ ap (λ q. c.loop-i.part ++ (q, c.entry_at-entry.result.now) ∷ []) w.in_ok-copy.ensures)
          ∙ passing_left passes c.args.listing.now c.loop-i.part c.loop-i.i c.path_at-path.result.now c.entry_at-entry.result.now c.path_at-path.ensures c.entry_at-entry.ensures
          (sym c.passes.ensures.test ∙ w.if-passes.true) c.loop-i.invariant
      | else-passes w ↦
          ap (λ l. l ++ passing passes (drop (c.loop-i.i + 1) c.args.listing.now)) w.part-is
          ∙ passed_over passes c.args.listing.now c.loop-i.part c.loop-i.i c.path_at-path.result.now c.entry_at-entry.result.now c.path_at-path.ensures c.entry_at-entry.ensures
          (sym c.passes.ensures.test ∙ w.if-passes.false) c.loop-i.invariant
    ]
