use Rattle.std.proofs.Common.{refl}
use Rattle.bisync_plan.proofs.planning.resync_planned.Goals as goal

pub returns : goal.returns
returns c = λ passes one two. record {
  steps = c.in_ok-steps.ensures.plan passes c.args.window1 c.args.window2 one two;
  finals = record {
    one = c.in_ok-final1.ensures.entries passes c.args.window1 c.args.window2 refl one two;
    two = c.in_ok-final2.ensures.entries passes c.args.window1 c.args.window2 refl one two;
  };
}
