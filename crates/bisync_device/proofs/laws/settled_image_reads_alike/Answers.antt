use Rattle.bisync_device.proofs.WorkFolderLaws.{image-settled}
use Rattle.bisync_device.proofs.laws.settled_image_reads_alike.Goals as goal

pub returns : goal.returns
returns c = image-settled
