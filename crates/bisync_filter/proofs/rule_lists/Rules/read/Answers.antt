use Rattle.bisync_filter.proofs.SpellingLaws.{only_rules, only_fault}
use Rattle.bisync_filter.proofs.rule_lists.Rules.read.Goals as goal

pub returns-in-Ok-clause-only_rules : goal.returns-in-Ok-clause-only_rules
returns-in-Ok-clause-only_rules c = only_rules c.in-Ok.rules.items c.args.text.now c.in-Ok.ensures.ok

pub returns-in-Err-clause-only_fault : goal.returns-in-Err-clause-only_fault
returns-in-Err-clause-only_fault c = only_fault c.in-Err.fault c.args.text.now c.in-Err.ensures.err
