use Rattle.bisync_device.proofs.WorkFolderLaws.{image-then}
use Rattle.bisync_device.proofs.laws.image_of_image.Goals as goal

pub returns : goal.returns
returns c = image-then
