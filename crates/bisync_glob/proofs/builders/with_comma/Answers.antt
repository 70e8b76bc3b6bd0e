use Rattle.std.proofs.Common.{◌∷◌, [], ◌++◌}
use Rattle.bisync_glob.specs.declared.tokens.Piece.TheVariants.{Comma}
use Rattle.bisync_glob.proofs.BuildingLaws.{open_comma, behind_open}
use Rattle.bisync_glob.proofs.builders.with_comma.Goals as goal

pub returns-clause-built : goal.returns-clause-built
returns-clause-built c = λ tokens (before, body, e, built, open'). (
  before,
  body ++ Comma ∷ [],
  behind_open tokens before body Comma e,
  built,
  rw (c.new-2.ensures.items, c.in_ok-push.ensures.items, c.new.ensures) (open_comma c.args.braces.complete.items c.args.braces.current.items body open'),
)
