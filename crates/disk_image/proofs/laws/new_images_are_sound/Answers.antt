use Rattle.disk_image.proofs.NewImages.{new_images}
use Rattle.disk_image.proofs.laws.new_images_are_sound.Goals as goal

pub returns : goal.returns
returns c = new_images
