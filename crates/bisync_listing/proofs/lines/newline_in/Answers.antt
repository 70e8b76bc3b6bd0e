use Rattle.bisync_listing.proofs.NewlineLaws.{found_newline, no_newline}
use Rattle.bisync_listing.proofs.lines.newline_in.Goals as goal

pub returns-clause-found : goal.returns-clause-found
returns-clause-found c = found_newline c.args.bytes.now c.memchr.result c.memchr.ensures

pub returns-clause-none : goal.returns-clause-none
returns-clause-none c = no_newline c.args.bytes.now c.memchr.result c.memchr.ensures
