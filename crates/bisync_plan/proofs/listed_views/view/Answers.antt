use Rattle.bisync_filter.specs.Passing.{rules_pass}
use Rattle.bisync_plan.proofs.ListedParts.{part_listed, part_narrowed, part_complete, part_digests}
use Rattle.bisync_plan.proofs.listed_views.view.Goals as goal

pub returns-clause-narrowed : goal.returns-clause-narrowed
returns-clause-narrowed c = record {
  base1 = part_narrowed (rules_pass c.args.rules.now) _ _ c.in_ok-base1.ensures;
  base2 = part_narrowed (rules_pass c.args.rules.now) _ _ c.in_ok-base2.ensures;
  now1 = λ p e h. (part_listed (rules_pass c.args.rules.now) _ _ p e c.in_ok-now1.ensures h).0;
  now2 = λ p e h. (part_listed (rules_pass c.args.rules.now) _ _ p e c.in_ok-now2.ensures h).0;
}

pub returns-clause-complete : goal.returns-clause-complete
returns-clause-complete c = record {
  names1 = part_complete (rules_pass c.args.rules.now) _ _ _ c.in_ok-now1.ensures c.in_ok-names1.ensures;
  names2 = part_complete (rules_pass c.args.rules.now) _ _ _ c.in_ok-now2.ensures c.in_ok-names2.ensures;
}

pub returns-clause-digests1 : goal.returns-clause-digests1
returns-clause-digests1 c = part_digests (rules_pass c.args.rules.now) _ _ c.in_ok-now1.ensures c.in_ok-all1.ensures

pub returns-clause-digests2 : goal.returns-clause-digests2
returns-clause-digests2 c = part_digests (rules_pass c.args.rules.now) _ _ c.in_ok-now2.ensures c.in_ok-all2.ensures
