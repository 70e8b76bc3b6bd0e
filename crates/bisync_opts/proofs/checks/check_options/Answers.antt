use Rattle.std.proofs.Common.{refl}
use Rattle.bisync_opts.proofs.Steps.{goes_on, ends, leaves}
use Rattle.bisync_opts.specs.Options.{check_options_from}
use Rattle.bisync_opts.proofs.checks.check_options.Goals as goal

pub returns-in_err-roots-clause-read : goal.returns-in_err-roots-clause-read
unfolding check_options_from
returns-in_err-roots-clause-read c =
    leaves _ _ _ _ c.from_residual.ensures.1 c.in_err-roots.ensures

pub returns-in_err-compare-clause-read : goal.returns-in_err-compare-clause-read
unfolding check_options_from
returns-in_err-compare-clause-read c =
    goes_on _ _ _ _ c.in_ok-roots.ensures
    (leaves _ _ _ _ c.from_residual-in_err-compare.ensures.1 c.in_err-compare.ensures.read)

pub returns-clause-read : goal.returns-clause-read
unfolding check_options_from
returns-clause-read c =
    goes_on _ _ _ _ c.in_ok-roots.ensures
    (goes_on _ _ _ _ c.in_ok-compare.ensures.read
    (ends _ _ refl))
