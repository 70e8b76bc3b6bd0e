use Rattle.std.proofs.Common.{refl}
use Rattle.bisync_opts.proofs.Steps.{goes_on, ends, leaves}
use Rattle.bisync_opts.specs.Options.{guard_of}
use Rattle.bisync_opts.proofs.guards.guard_rule.Goals as goal

pub returns-in_err-max_delete-clause-read : goal.returns-in_err-max_delete-clause-read
unfolding guard_of
returns-in_err-max_delete-clause-read c =
    leaves _ _ _ _ c.from_residual.ensures.1 c.in_err-max_delete.ensures.read

pub returns-in_err-name-clause-read : goal.returns-in_err-name-clause-read
unfolding guard_of
returns-in_err-name-clause-read c =
    goes_on _ _ _ _ c.in_ok-max_delete.ensures.read
    (leaves _ _ _ _ c.from_residual-in_err-name.ensures.1 c.in_err-name.ensures)

pub returns-clause-read : goal.returns-clause-read
unfolding guard_of
returns-clause-read c =
    goes_on _ _ _ _ c.in_ok-max_delete.ensures.read
    (goes_on _ _ _ _ c.in_ok-name.ensures
    (ends _ _ (rw (c.then_some-check.ensures, c.is_set.ensures, c.is_set-force.ensures) refl)))
