use Rattle.std.proofs.Common.{sym}
use Rattle.bisync_opts.proofs.PathLemmas.{is_path-from_IsPath, refused_path}
use Rattle.bisync_opts.proofs.conversions.is_path.Goals as goal
use Rattle.bisync_opts.proofs.conversions.is_path.Goals.{in-Ok, in-Err}

pub returns : goal.returns
returns c = elim c.match-read.branch [
  | in-Ok w ↦ rw w.result-is (sym (is_path-from_IsPath _ w.in-Ok.ensures.ok.1))
  | in-Err w ↦ rw w.result-is (refused_path _ _ _ w.is_no_path.ensures w.in-Err.ensures.err)
]
