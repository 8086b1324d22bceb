use Rattle.image_array.proofs.Opened.{opens_images}
use Rattle.image_array.proofs.laws.images_are_opened.Goals as goal

pub returns : goal.returns
returns c = opens_images
