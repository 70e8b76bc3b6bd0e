use Rattle.std.proofs.Common.{Err, sym, ap, subst}
use Rattle.std.proofs.lemmas.Result.{IfOk-weaker, IfErr-weaker}
use Rattle.bisync_tree.specs.Walk.{paths_of, listings_of}
use Rattle.bisync_model.specs.Names.{AreNames}
use Rattle.bisync_model.specs.Views.{known_of}
use Rattle.bisync_filter.specs.Passing.{rules_pass}
use Rattle.bisync_plan.specs.Plans.{AreWritable, finals_of, header_of}
use Rattle.bisync_plan.specs.Faults.{IsFaultIn, IsFaultOf}
use Rattle.bisync_plan.proofs.PlannedRuns.{own_finals, fault_of, name_fault, run_writable}
use Rattle.bisync_plan.proofs.planning.plan.Goals as goal

pub returns-in-Err-clause-fault : goal.returns-in-Err-clause-fault
returns-in-Err-clause-fault c =
    let known = known_of c.args.conflict.now c.args.compare.now (rules_pass c.args.rules.now) c.args.window1 c.args.window2 c.args.view.now in
    let paths = paths_of (listings_of c.args.view.now) in
    let header = header_of c.args.stamp c.args.compare.now in
    subst (λ f. IsFaultOf known paths header c.args.limits.now.listing c.args.check f) (sym c.of_names.ensures)
    (name_fault known paths header c.args.limits.now.listing c.args.check c.in-Err.fault
    (λ side p e. c.in-Err.ensures.too_long side p (ap Err e) (rules_pass c.args.rules.now) c.args.window1 c.args.window2 c.requires.narrowed))

pub planned-requires-clause-names : goal.planned-requires-clause-names
planned-requires-clause-names c =
    let known = known_of c.args.conflict.now c.args.compare.now (rules_pass c.args.rules.now) c.args.window1 c.args.window2 c.args.view.now in
    subst (λ s. AreNames known (paths_of (listings_of c.args.view.now)) s) (sym c.as_slice.ensures.value)
    (c.in-Ok.ensures.names (rules_pass c.args.rules.now) c.args.window1 c.args.window2 c.requires.narrowed)

pub tested-requires : goal.tested-requires
tested-requires c = record {
  writable = subst (λ h. AreWritable h c.in_ok-made.made) (sym c.header-header.ensures)
      (run_writable c.args.conflict.now c.args.compare.now (rules_pass c.args.rules.now) c.args.window1 c.args.window2 c.args.view.now (paths_of (listings_of c.args.view.now)) c.args.stamp c.in_ok-made.made
      c.in_ok-made.ensures c.requires.stamp c.requires.compares c.requires.digests1 c.requires.digests2);
  finals = own_finals _ c.in_ok-made.made c.in_ok-made.ensures.finals;
}

pub returns-clause-writable : goal.returns-clause-writable
returns-clause-writable c = IfOk-weaker c.tested.result _ _
    (λ plan e. subst (λ x. AreWritable (header_of c.args.stamp c.args.compare.now) x) (sym e)
    (run_writable c.args.conflict.now c.args.compare.now (rules_pass c.args.rules.now) c.args.window1 c.args.window2 c.args.view.now (paths_of (listings_of c.args.view.now)) c.args.stamp c.in_ok-made.made
    c.in_ok-made.ensures c.requires.stamp c.requires.compares c.requires.digests1 c.requires.digests2))
    c.tested.ensures.same

pub returns-clause-fault : goal.returns-clause-fault
returns-clause-fault c =
    let known = known_of c.args.conflict.now c.args.compare.now (rules_pass c.args.rules.now) c.args.window1 c.args.window2 c.args.view.now in
    let paths = paths_of (listings_of c.args.view.now) in
    IfErr-weaker c.tested.result _ _
    (λ fault h. fault_of known paths (header_of c.args.stamp c.args.compare.now) c.args.limits.now.listing c.args.check c.in_ok-made.made c.in_ok-made.ensures fault
    (subst (λ hd. IsFaultIn c.args.compare.now (finals_of c.in_ok-made.made) hd c.args.limits.now.listing c.args.check fault) c.header-header.ensures h))
    c.tested.ensures.fault
