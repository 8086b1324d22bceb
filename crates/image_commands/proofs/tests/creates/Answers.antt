use Rattle.std.proofs.Common.{refl}
use Rattle.mdc_types.specs.Names.{name_length}
use Rattle.image_commands.proofs.tests.creates.Goals as goal

pub create_images-requires-clause-name : goal.create_images-requires-clause-name
unfolding name_length
create_images-requires-clause-name g c = refl
