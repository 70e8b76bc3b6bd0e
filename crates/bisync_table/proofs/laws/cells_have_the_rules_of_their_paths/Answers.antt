use Rattle.bisync_table.proofs.CellRules.{rule_seen}
use Rattle.bisync_table.proofs.laws.cells_have_the_rules_of_their_paths.Goals as goal

pub returns : goal.returns
returns c = rule_seen
