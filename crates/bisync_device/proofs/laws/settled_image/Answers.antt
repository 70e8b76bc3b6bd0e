use Rattle.bisync_device.proofs.WorkFolderLaws.{settled-image}
use Rattle.bisync_device.proofs.laws.settled_image.Goals as goal

pub returns : goal.returns
returns c = settled-image
