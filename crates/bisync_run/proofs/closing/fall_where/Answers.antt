use Rattle.std.proofs.Common.{[], refl}
use Rattle.bisync_work.specs.Renames.{fall_renames}
use Rattle.bisync_run.proofs.OwnNames.{fallen_again, fallen_own}
use Rattle.bisync_run.proofs.closing.fall_where.Goals as goal

pub returns-then-not-opts-2-clause-names : goal.returns-then-not-opts-2-clause-names
returns-then-not-opts-2-clause-names g c t limit compare k own = fallen_own limit compare k _ _ (c.fall.ensures.begun t) own

pub returns-then-not-opts-2-clause-stays_fallen : goal.returns-then-not-opts-2-clause-stays_fallen
returns-then-not-opts-2-clause-stays_fallen g c t f is = fallen_again f _ _ (c.fall.ensures.begun t) is

pub returns-else-falls-clause-begun : goal.returns-else-falls-clause-begun
returns-else-falls-clause-begun g c t = record { done = []; left = fall_renames; all = refl; folder = refl }

pub returns-in_default-clause-begun : goal.returns-in_default-clause-begun
returns-in_default-clause-begun g c t = record { done = []; left = fall_renames; all = refl; folder = refl }
