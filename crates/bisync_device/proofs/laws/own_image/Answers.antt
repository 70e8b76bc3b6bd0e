use Rattle.bisync_device.proofs.WorkFolderLaws.{image-own}
use Rattle.bisync_device.proofs.laws.own_image.Goals as goal

pub returns : goal.returns
returns c = image-own
