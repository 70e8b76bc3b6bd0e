use Rattle.std.proofs.Common.{sym, ◌∙◌, refl}
use Rattle.bisync_work.proofs.HeaderLaws.{header_same}
use Rattle.bisync_work.proofs.found.join_listed.Goals as goal

pub returns-then-eq-clause-pair : goal.returns-then-eq-clause-pair
returns-then-eq-clause-pair c = (header_same c.args.header c.args.other (sym c.eq.ensures ∙ c.if-eq.true), refl)
