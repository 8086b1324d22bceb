use Rattle.image_files.proofs.Backs.{as_they_were}
use Rattle.image_files.proofs.laws.opened_and_closed.Goals as goal

pub returns : goal.returns
returns c = as_they_were
