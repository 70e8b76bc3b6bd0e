use Rattle.std.proofs.Common.{refl}
use Rattle.bisync_opts.proofs.Steps.{goes_on, ends, leaves}
use Rattle.bisync_opts.specs.Options.{places_of}
use Rattle.bisync_opts.proofs.places.given_places.Goals as goal

pub returns-in_err-filters : goal.returns-in_err-filters
unfolding places_of
returns-in_err-filters c =
    leaves _ _ _ _ c.from_residual.ensures.1 c.in_err-filters.ensures

pub returns-in_err-workdir : goal.returns-in_err-workdir
unfolding places_of
returns-in_err-workdir c =
    goes_on _ _ _ _ c.in_ok-filters.ensures
    (leaves _ _ _ _ c.from_residual-in_err-workdir.ensures.1 c.in_err-workdir.ensures)

pub returns-in_err-backup1 : goal.returns-in_err-backup1
unfolding places_of
returns-in_err-backup1 c =
    goes_on _ _ _ _ c.in_ok-filters.ensures
    (goes_on _ _ _ _ c.in_ok-workdir.ensures
    (leaves _ _ _ _ c.from_residual-in_err-backup1.ensures.1 c.in_err-backup1.ensures))

pub returns-in_err-backup2 : goal.returns-in_err-backup2
unfolding places_of
returns-in_err-backup2 c =
    goes_on _ _ _ _ c.in_ok-filters.ensures
    (goes_on _ _ _ _ c.in_ok-workdir.ensures
    (goes_on _ _ _ _ c.in_ok-backup1.ensures
    (leaves _ _ _ _ c.from_residual-in_err-backup2.ensures.1 c.in_err-backup2.ensures)))

pub returns : goal.returns
unfolding places_of
returns c =
    goes_on _ _ _ _ c.in_ok-filters.ensures
    (goes_on _ _ _ _ c.in_ok-workdir.ensures
    (goes_on _ _ _ _ c.in_ok-backup1.ensures
    (goes_on _ _ _ _ c.in_ok-backup2.ensures
    (ends _ _ refl))))
