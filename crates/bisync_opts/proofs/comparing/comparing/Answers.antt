use Rattle.std.proofs.Common.{refl}
use Rattle.bisync_opts.proofs.Steps.{goes_on, ends, leaves}
use Rattle.bisync_opts.specs.Options.{compare_of}
use Rattle.bisync_opts.proofs.comparing.comparing.Goals as goal

pub returns-in_err-fields-clause-read : goal.returns-in_err-fields-clause-read
unfolding compare_of
returns-in_err-fields-clause-read c =
    leaves _ _ _ _ c.from_residual.ensures.1 c.in_err-fields.ensures.read

pub returns-in_err-window-clause-read : goal.returns-in_err-window-clause-read
unfolding compare_of
returns-in_err-window-clause-read c =
    goes_on _ _ _ _ c.in_ok-fields.ensures.read
    (leaves _ _ _ _ c.from_residual-in_err-window.ensures.1 c.in_err-window.ensures)

pub returns-clause-read : goal.returns-clause-read
unfolding compare_of
returns-clause-read c =
    goes_on _ _ _ _ c.in_ok-fields.ensures.read
    (goes_on _ _ _ _ c.in_ok-window.ensures
    (ends _ _ refl))
