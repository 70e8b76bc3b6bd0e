use Rattle.bisync_device.proofs.WorkFolderLaws.{with_held-twice, with_held-own, at-with_held, at-with_held_other}
use Rattle.bisync_device.proofs.laws.a_change_of_one_name.Goals as goal

pub returns-clause-twice : goal.returns-clause-twice
returns-clause-twice c = with_held-twice

pub returns-clause-own : goal.returns-clause-own
returns-clause-own c = with_held-own

pub returns-clause-there : goal.returns-clause-there
returns-clause-there c = at-with_held

pub returns-clause-others : goal.returns-clause-others
returns-clause-others c = at-with_held_other
