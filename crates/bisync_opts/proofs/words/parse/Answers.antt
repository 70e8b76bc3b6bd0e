use Rattle.std.proofs.Common.{map}
use Rattle.clap.specs.Matches.{found_of}
use Rattle.clap.specs.Simple.{app_of}
use Rattle.clap.specs.Walk.{rows_of}
use Rattle.bisync_opts.proofs.WordLemmas.{is_simple-from, taken_ok, taken_refused}
use Rattle.bisync_opts.proofs.words.parse.Goals as goal

pub returns-in-Ok-clause-ok : goal.returns-in-Ok-clause-ok
returns-in-Ok-clause-ok c =
    let simple = is_simple-from (app_of c.args.command) c.requires in
    taken_ok (app_of c.args.command) (map (λ w. w.now) c.args.words.now) (rows_of (found_of c.in-Ok.matches))
    (c.in-Ok.ensures.kinds c.requires) (c.in-Ok.ensures.matches simple).0

pub returns-in-Err-clause-refused : goal.returns-in-Err-clause-refused
returns-in-Err-clause-refused c =
    rw (c.fault_by.ensures, c.kind.ensures)
    (taken_refused (app_of c.args.command) (map (λ w. w.now) c.args.words.now) c.in-Err.error (c.in-Err.ensures.kinds c.requires))
