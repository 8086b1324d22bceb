use Rattle.std.proofs.Common.{refl}
use Rattle.mdc_types.specs.Names.{name_length}
use Rattle.image_opening.proofs.tests.created.Goals as goal

pub create-requires-clause-name : goal.create-requires-clause-name
unfolding name_length
create-requires-clause-name c = refl
