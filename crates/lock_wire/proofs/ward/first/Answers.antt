use Rattle.lock_wire.proofs.Changed.{nobody}
use Rattle.lock_wire.proofs.ward.first.Goals as goal

pub returns-clause-ward : goal.returns-clause-ward
returns-clause-ward c = nobody _
