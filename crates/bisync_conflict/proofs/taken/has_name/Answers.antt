use Rattle.std.proofs.Common.{◌∙◌, sym, ◌++◌}
use Rattle.bisync_tree.specs.Rows.{keys}
use Rattle.bisync_conflict.proofs.SetsOfNames.{first_holds, second_decides}
use Rattle.bisync_conflict.proofs.taken.has_name.Goals as goal

pub returns-then-is_there : goal.returns-then-is_there
returns-then-is_there c = c.if-is_there.true ∙ first_holds c.args.name.now (c.args.view.now.names1 ++ c.args.view.now.names2) (keys c.args.view.now.prior1 ++ keys c.args.view.now.prior2) (sym c.is_there.ensures ∙ c.if-is_there.true)

pub returns-else-is_there : goal.returns-else-is_there
returns-else-is_there c = second_decides c.args.name.now (c.args.view.now.names1 ++ c.args.view.now.names2) (keys c.args.view.now.prior1 ++ keys c.args.view.now.prior2) c.was_there.result (sym c.is_there.ensures ∙ c.if-is_there.false) c.was_there.ensures
