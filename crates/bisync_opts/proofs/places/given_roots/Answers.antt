use Rattle.std.proofs.Common.{refl}
use Rattle.bisync_opts.proofs.Steps.{goes_on, ends, leaves}
use Rattle.bisync_opts.specs.Options.{roots_of}
use Rattle.bisync_opts.proofs.places.given_roots.Goals as goal

pub returns-in_err-root1 : goal.returns-in_err-root1
unfolding roots_of
returns-in_err-root1 c =
    leaves _ _ _ _ c.from_residual.ensures.1 c.in_err-root1.ensures

pub returns-in_err-root2 : goal.returns-in_err-root2
unfolding roots_of
returns-in_err-root2 c =
    goes_on _ _ _ _ c.in_ok-root1.ensures
    (leaves _ _ _ _ c.from_residual-in_err-root2.ensures.1 c.in_err-root2.ensures)

pub returns : goal.returns
unfolding roots_of
returns c =
    goes_on _ _ _ _ c.in_ok-root1.ensures
    (goes_on _ _ _ _ c.in_ok-root2.ensures
    (ends _ _ refl))
