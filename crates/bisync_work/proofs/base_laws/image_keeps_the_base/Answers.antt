use Rattle.bisync_device.specs.WorkFolder.{WorkFolder, IsSettled, IsImage}
use Rattle.bisync_device.proofs.WorkFolderLaws.{image-settled}
use Rattle.bisync_work.specs.Moves.{SameListings}
use Rattle.bisync_work.proofs.BaseLaws.{same_keeps, same_in_pair}
use Rattle.bisync_work.proofs.base_laws.image_keeps_the_base.Goals as goal

same : (f g : WorkFolder) → IsSettled f → IsImage f g → SameListings f g
same f g settled image = let r = image-settled f g settled image in record { one = r.one; two = r.two; one_old = r.one_old; two_old = r.two_old }

pub returns-clause-keeps : goal.returns-clause-keeps
returns-clause-keeps c = λ limit f g settled image. same_keeps limit f g (same f g settled image)

pub returns-clause-pair : goal.returns-clause-pair
returns-clause-pair c = λ limit f g settled image. same_in_pair limit f g (same f g settled image)
