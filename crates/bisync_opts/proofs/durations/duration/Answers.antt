use Rattle.std.proofs.Common.{rules, w64}
use Rattle.std.proofs.lemmas.Int.{to_z-of_z}
use Rattle.bisync_opts.proofs.DurationLemmas.{none_is, some_is}
use Rattle.bisync_opts.proofs.durations.duration.Goals as goal

pub returns-in_err-n-clause-value : goal.returns-in_err-n-clause-value
returns-in_err-n-clause-value c = rw (c.from_residual.ensures, ← c.as_bytes.ensures.value) (none_is c.as_bytes.result.now c.in_err-n.ensures.exact)

pub returns-clause-value : goal.returns-clause-value
returns-clause-value c =
    let same = to_z-of_z w64 c.in_ok-n.n (search rules) in
    rw (same, ← c.as_bytes.ensures.value) (some_is c.as_bytes.result.now c.in_ok-n.n c.in_ok-n.ensures.found c.in_ok-n.ensures.exact)
