use Rattle.std.proofs.Common.{refl}
use Rattle.mdc_types.specs.Names.{name_length}
use Rattle.disk_image.proofs.tests.creates_images.Goals as goal

pub create-requires-clause-name : goal.create-requires-clause-name
unfolding name_length
create-requires-clause-name g c = refl
