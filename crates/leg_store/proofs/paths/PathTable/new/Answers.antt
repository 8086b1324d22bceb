use Rattle.leg_store.proofs.PathLaws.{path_open-new}
use Rattle.leg_store.proofs.paths.PathTable.new.Goals as goal

pub returns : goal.returns
returns c = path_open-new 16 8
