use Rattle.std.proofs.Common.{refl}
use Rattle.bisync_opts.proofs.Steps.{goes_on, ends, leaves}
use Rattle.bisync_opts.specs.Options.{converted}
use Rattle.bisync_opts.proofs.reading.convert.Goals as goal

pub returns-in_err-roots-clause-read : goal.returns-in_err-roots-clause-read
unfolding converted
returns-in_err-roots-clause-read c =
    leaves _ _ _ _ c.from_residual.ensures.1 c.in_err-roots.ensures

pub returns-in_err-mode-clause-read : goal.returns-in_err-mode-clause-read
unfolding converted
returns-in_err-mode-clause-read c =
    goes_on _ _ _ _ c.in_ok-roots.ensures
    (leaves _ _ _ _ c.from_residual-in_err-mode.ensures.1 c.in_err-mode.ensures)

pub returns-in_err-compare-clause-read : goal.returns-in_err-compare-clause-read
unfolding converted
returns-in_err-compare-clause-read c =
    goes_on _ _ _ _ c.in_ok-roots.ensures
    (goes_on _ _ _ _ c.in_ok-mode.ensures
    (leaves _ _ _ _ c.from_residual-in_err-compare.ensures.1 c.in_err-compare.ensures.read))

pub returns-in_err-conflict-clause-read : goal.returns-in_err-conflict-clause-read
unfolding converted
returns-in_err-conflict-clause-read c =
    goes_on _ _ _ _ c.in_ok-roots.ensures
    (goes_on _ _ _ _ c.in_ok-mode.ensures
    (goes_on _ _ _ _ c.in_ok-compare.ensures.read
    (leaves _ _ _ _ c.from_residual-in_err-conflict.ensures.1 c.in_err-conflict.ensures.read)))

pub returns-in_err-guard-clause-read : goal.returns-in_err-guard-clause-read
unfolding converted
returns-in_err-guard-clause-read c =
    goes_on _ _ _ _ c.in_ok-roots.ensures
    (goes_on _ _ _ _ c.in_ok-mode.ensures
    (goes_on _ _ _ _ c.in_ok-compare.ensures.read
    (goes_on _ _ _ _ c.in_ok-conflict.ensures.read
    (leaves _ _ _ _ c.from_residual-in_err-guard.ensures.1 c.in_err-guard.ensures.read))))

pub returns-in_err-sync-clause-read : goal.returns-in_err-sync-clause-read
unfolding converted
returns-in_err-sync-clause-read c =
    goes_on _ _ _ _ c.in_ok-roots.ensures
    (goes_on _ _ _ _ c.in_ok-mode.ensures
    (goes_on _ _ _ _ c.in_ok-compare.ensures.read
    (goes_on _ _ _ _ c.in_ok-conflict.ensures.read
    (goes_on _ _ _ _ c.in_ok-guard.ensures.read
    (leaves _ _ _ _ c.from_residual-in_err-sync.ensures.1 c.in_err-sync.ensures)))))

pub returns-in_err-places-clause-read : goal.returns-in_err-places-clause-read
unfolding converted
returns-in_err-places-clause-read c =
    goes_on _ _ _ _ c.in_ok-roots.ensures
    (goes_on _ _ _ _ c.in_ok-mode.ensures
    (goes_on _ _ _ _ c.in_ok-compare.ensures.read
    (goes_on _ _ _ _ c.in_ok-conflict.ensures.read
    (goes_on _ _ _ _ c.in_ok-guard.ensures.read
    (goes_on _ _ _ _ c.in_ok-sync.ensures
    (leaves _ _ _ _ c.from_residual-in_err-places.ensures.1 c.in_err-places.ensures))))))

pub returns-in_err-lock-clause-read : goal.returns-in_err-lock-clause-read
unfolding converted
returns-in_err-lock-clause-read c =
    goes_on _ _ _ _ c.in_ok-roots.ensures
    (goes_on _ _ _ _ c.in_ok-mode.ensures
    (goes_on _ _ _ _ c.in_ok-compare.ensures.read
    (goes_on _ _ _ _ c.in_ok-conflict.ensures.read
    (goes_on _ _ _ _ c.in_ok-guard.ensures.read
    (goes_on _ _ _ _ c.in_ok-sync.ensures
    (goes_on _ _ _ _ c.in_ok-places.ensures
    (leaves _ _ _ _ c.from_residual-in_err-lock.ensures.1 c.in_err-lock.ensures.read)))))))

pub returns-clause-read : goal.returns-clause-read
unfolding converted
returns-clause-read c =
    goes_on _ _ _ _ c.in_ok-roots.ensures
    (goes_on _ _ _ _ c.in_ok-mode.ensures
    (goes_on _ _ _ _ c.in_ok-compare.ensures.read
    (goes_on _ _ _ _ c.in_ok-conflict.ensures.read
    (goes_on _ _ _ _ c.in_ok-guard.ensures.read
    (goes_on _ _ _ _ c.in_ok-sync.ensures
    (goes_on _ _ _ _ c.in_ok-places.ensures
    (goes_on _ _ _ _ c.in_ok-lock.ensures.read
    (ends _ _
    (rw (c.resync.ensures, c.is_set.ensures, c.is_set-2.ensures, c.is_set-3.ensures, c.is_set-4.ensures, c.folder_mode.ensures, c.is_set-5.ensures) refl)))))))))
