use Rattle.bisync_glob.proofs.BuildingLaws.{parts_closed}
use Rattle.bisync_glob.proofs.builders.closed.Goals as goal

pub returns-clause-built : goal.returns-clause-built
returns-clause-built c = λ tokens (before, body, e, built, open').
    rw (c.in_ok-push-2.ensures.items, c.new-2.ensures, c.in_ok-push.ensures.items, c.new.ensures)
    (parts_closed c.args.parts.items c.args.braces.complete.items c.args.braces.current.items tokens before body e built open')
