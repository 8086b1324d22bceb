use Rattle.std.proofs.Common.{refl}
use Rattle.mdc_types.specs.Names.{name_length}
use Rattle.image_upgrade.proofs.tests.created.Goals as goal

pub create_images-end-requires-clause-name : goal.create_images-end-requires-clause-name
unfolding name_length
create_images-end-requires-clause-name c = refl
