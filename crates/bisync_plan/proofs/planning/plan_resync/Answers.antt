use Rattle.std.proofs.Common.{[], true, false, sym, subst}
use Rattle.std.proofs.lemmas.Result.{IfOk-weaker, IfErr-weaker}
use Rattle.bisync_tree.specs.Walk.{paths_of, listings}
use Rattle.bisync_model.specs.Views.{resync_known_of}
use Rattle.bisync_plan.specs.Plans.{AreWritable, finals_of, header_of}
use Rattle.bisync_plan.specs.Faults.{IsFaultIn}
use Rattle.bisync_plan.proofs.PlannedRuns.{own_finals, resync_fault, resync_writable, all_pass}
use Rattle.bisync_plan.proofs.planning.plan_resync.Goals as goal

pub tested-requires : goal.tested-requires
tested-requires c =
    let made = c.in_ok-made.ensures (λ p. true) (all_pass c.args.now1.now) (all_pass c.args.now2.now) in
    record {
      writable = subst (λ h. AreWritable h c.in_ok-made.made) (sym c.header-header.ensures)
          (resync_writable c.args.mode c.args.compare.now (λ p. true) c.args.window1 c.args.window2 c.args.now1.now c.args.now2.now (paths_of (listings [] [] c.args.now1.now c.args.now2.now)) c.args.stamp c.in_ok-made.made
          made c.requires.stamp c.requires.compares c.requires.digests1 c.requires.digests2);
      finals = own_finals _ c.in_ok-made.made made.finals;
    }

pub returns-clause-writable : goal.returns-clause-writable
returns-clause-writable c =
    let made = c.in_ok-made.ensures (λ p. true) (all_pass c.args.now1.now) (all_pass c.args.now2.now) in
    IfOk-weaker c.tested.result _ _
    (λ plan e. subst (λ x. AreWritable (header_of c.args.stamp c.args.compare.now) x) (sym e)
    (resync_writable c.args.mode c.args.compare.now (λ p. true) c.args.window1 c.args.window2 c.args.now1.now c.args.now2.now (paths_of (listings [] [] c.args.now1.now c.args.now2.now)) c.args.stamp c.in_ok-made.made
    made c.requires.stamp c.requires.compares c.requires.digests1 c.requires.digests2))
    c.tested.ensures.same

pub returns-clause-fault : goal.returns-clause-fault
returns-clause-fault c = IfErr-weaker c.tested.result _ _
    (λ fault h passes one two. resync_fault (resync_known_of c.args.mode c.args.compare.now passes c.args.window1 c.args.window2 c.args.now1.now c.args.now2.now) (paths_of (listings [] [] c.args.now1.now c.args.now2.now))
    (header_of c.args.stamp c.args.compare.now) c.args.limits.now.listing c.in_ok-made.made (c.in_ok-made.ensures passes one two) fault
    (subst (λ hd. IsFaultIn c.args.compare.now (finals_of c.in_ok-made.made) hd c.args.limits.now.listing false fault) c.header-header.ensures h))
    c.tested.ensures.fault
