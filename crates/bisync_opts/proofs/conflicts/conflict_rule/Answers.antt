use Rattle.std.proofs.Common.{refl}
use Rattle.bisync_opts.proofs.Steps.{goes_on, ends, leaves}
use Rattle.bisync_opts.specs.Options.{conflict_of}
use Rattle.bisync_opts.proofs.conflicts.conflict_rule.Goals as goal

pub returns-in_err-prefer-clause-read : goal.returns-in_err-prefer-clause-read
unfolding conflict_of
returns-in_err-prefer-clause-read c =
    leaves _ _ _ _ c.from_residual.ensures.1 c.in_err-prefer.ensures

pub returns-in_err-loser-clause-read : goal.returns-in_err-loser-clause-read
unfolding conflict_of
returns-in_err-loser-clause-read c =
    goes_on _ _ _ _ c.in_ok-prefer.ensures
    (leaves _ _ _ _ c.from_residual-in_err-loser.ensures.1 c.in_err-loser.ensures)

pub returns-in_err-suffix1-clause-read : goal.returns-in_err-suffix1-clause-read
unfolding conflict_of
returns-in_err-suffix1-clause-read c =
    goes_on _ _ _ _ c.in_ok-prefer.ensures
    (goes_on _ _ _ _ c.in_ok-loser.ensures
    (leaves _ _ _ _ c.from_residual-in_err-suffix1.ensures.1 c.in_err-suffix1.ensures.read))

pub returns-clause-read : goal.returns-clause-read
unfolding conflict_of
returns-clause-read c =
    goes_on _ _ _ _ c.in_ok-prefer.ensures
    (goes_on _ _ _ _ c.in_ok-loser.ensures
    (goes_on _ _ _ _ c.in_ok-suffix1.ensures.read
    (ends _ _ refl)))
