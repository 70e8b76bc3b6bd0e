use Rattle.std.proofs.Common.{sym, ap, ◌∙◌}
use Rattle.bisync_text.specs.Quote.{quoted}
use Rattle.bisync_listing.proofs.HeaderLaws.{path_quoted}
use Rattle.bisync_listing.proofs.paths.read_path.Goals as goal

pub returns-in-Some : goal.returns-in-Some
returns-in-Some c = path_quoted c.args.text.now c.in-Some.bytes.now c.path_of.result c.in-Some.ensures c.path_of.ensures

pub returns-in-Some-2 : goal.returns-in-Some-2
returns-in-Some-2 c =
    let parts = rw c.in-Some-2.is at c.in_ok-bytes.ensures in
    path_quoted c.args.text.now c.as_bytes.result.now c.path_of-in-Some-2.result (parts ∙ ap quoted (sym c.as_bytes.ensures)) c.path_of-in-Some-2.ensures
