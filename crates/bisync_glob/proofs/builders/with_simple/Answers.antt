use Rattle.std.proofs.Common.{◌∷◌, [], ◌++◌}
use Rattle.bisync_glob.proofs.BuildingLaws.{open_more, behind_open}
use Rattle.bisync_glob.proofs.builders.with_simple.Goals as goal

pub returns-clause-built : goal.returns-clause-built
returns-clause-built c = λ tokens piece is (before, body, e, built, open'). (
  before,
  body ++ piece ∷ [],
  behind_open tokens before body piece e,
  built,
  rw c.in_ok-push.ensures.items (open_more c.args.braces.complete.items c.args.braces.current.items c.args.simple body piece is open'),
)
