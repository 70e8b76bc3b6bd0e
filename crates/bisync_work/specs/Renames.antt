-- Renames in a work folder, one after another.
use Rattle.std.specs.Prelude.{◌≡◌, List, [], ◌∷◌, ◌++◌}
use Rattle.bisync_device.specs.WorkFolder.{WorkFolder, renamed}
use Rattle.bisync_device.specs.declared.works.WorkName.{WorkName}
use Rattle.bisync_device.specs.declared.works.WorkName.TheVariants.{One, Two, OneOld, TwoOld, OneNew, TwoNew, OneErr, TwoErr}
use Rattle.bisync_work.specs.declared.bases.Pair.{Pair}
use Rattle.bisync_work.specs.declared.bases.Pair.TheVariants.{Current, Mixed, Old}

-- a name, and the name that it is moved over
abbrev pub Renames : Type 0
Renames = List (WorkName × WorkName)

-- what these renames leave; a name that isn't there is passed over
abbrev pub after_renames : Renames → WorkFolder → WorkFolder
after_renames [] f = f
after_renames (r ∷ rs) f = after_renames rs (renamed r.0 r.1 f)

-- the first of these renames are done, and nothing else is
pub record AreBegun (renames : Renames) (old new : WorkFolder) : Type 0 where
  pub done : Renames
  pub left : Renames
  pub all : renames ≡ done ++ left
  pub folder : new ≡ after_renames done old

-- those of a set back from this pair
abbrev pub back_renames : Pair → Renames
back_renames Current = (One, OneOld) ∷ (Two, TwoOld) ∷ []
back_renames Mixed = (Two, TwoOld) ∷ []
back_renames Old = []

-- those of a switch
abbrev pub switch_renames : Renames
switch_renames = (OneNew, One) ∷ (TwoNew, Two) ∷ []

-- those of a fall
abbrev pub fall_renames : Renames
fall_renames = (OneOld, OneErr) ∷ (One, OneErr) ∷ (TwoOld, TwoErr) ∷ (Two, TwoErr) ∷ []
