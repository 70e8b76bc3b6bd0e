use Rattle.std.proofs.Common.{◌∷◌, []}
use Rattle.bisync_glob.specs.declared.parts.Part.TheVariants.{Plain}
use Rattle.bisync_glob.proofs.BuildingLaws.{parts_more}
use Rattle.bisync_glob.proofs.builders.with_plain.Goals as goal

pub returns-clause-built : goal.returns-clause-built
returns-clause-built c = λ tokens piece is built.
    rw c.in_ok-push.ensures.items (parts_more c.args.parts.items (Plain c.args.simple) tokens (piece ∷ []) is built)
