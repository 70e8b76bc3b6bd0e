use Rattle.std.proofs.Common.{refl, IsTrue, rules}
use Rattle.bisync_plan.specs.Plans.{finals_of}
use Rattle.bisync_plan.proofs.PlannedRuns.{apart_fault}
use Rattle.bisync_plan.proofs.tested.tested.Goals as goal

pub returns-in-Some-excess-clause-fault : goal.returns-in-Some-excess-clause-fault
returns-in-Some-excess-clause-fault c = record {
  size = _;
  text = record { rows = c.args.made.final2; are = c.requires.finals.two; size_is = refl };
  over = c.in-Some-excess.ensures.over;
  number_is = c.in-Some-excess.ensures.number;
  before = record {
    size = _;
    text = record { rows = c.args.made.final1; are = c.requires.finals.one; size_is = refl };
    within = c.in_default.ensures.within;
  };
}

pub returns-in-Err-clause-fault : goal.returns-in-Err-clause-fault
returns-in-Err-clause-fault c =
    let on : IsTrue c.args.check = search rules in
    apart_fault c.args.compare.now (finals_of c.args.made) c.args.header.now c.args.limits.now.listing c.args.check on
    (record { size = _; text = record { rows = c.args.made.final1; are = c.requires.finals.one; size_is = refl }; within = c.in_default.ensures.within })
    (record { size = _; text = record { rows = c.args.made.final2; are = c.requires.finals.two; size_is = refl }; within = c.in_default-excess.ensures.within })
    c.in-Err.fault c.in-Err.ensures.fault
