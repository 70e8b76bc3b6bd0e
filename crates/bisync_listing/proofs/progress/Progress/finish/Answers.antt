use Rattle.std.proofs.Common.{sym}
use Rattle.std.proofs.lemmas.Bool.{eqb-true}
use Rattle.std.proofs.lemmas.List.{nil_from_length}
use Rattle.bisync_listing.proofs.VerdictLaws.{finished}
use Rattle.bisync_listing.proofs.progress.Progress.finish.Goals as goal

pub returns-clause-ok : goal.returns-clause-ok
returns-clause-ok c =
    finished c.args.self c.requires.sound (c.is_whole.ensures.0 c.if-not-is_whole.false) (nil_from_length c.args.self.line (eqb-true _ 0 (sym c.if-not-is_empty.ensures)))
