use Rattle.laws_wire.proofs.Fresh.{blocks_are_told}
use Rattle.laws_wire.proofs.laws.blocks_are_told.Goals as goal

pub returns : goal.returns
returns c = blocks_are_told
