use Rattle.image_binary.proofs.ImageLaws.{images_read, only_images, images_differ}
use Rattle.image_binary.proofs.laws.images_are_read.Goals as goal

pub returns-clause-read : goal.returns-clause-read
returns-clause-read c = images_read

pub returns-clause-only : goal.returns-clause-only
returns-clause-only c = only_images

pub returns-clause-differ : goal.returns-clause-differ
returns-clause-differ c = images_differ
