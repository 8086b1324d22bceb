use Rattle.cluster_core.proofs.Readying.{ready}
use Rattle.cluster_core.proofs.world.World.core.Goals as goal

pub returns-clause-ready : goal.returns-clause-ready
returns-clause-ready g c = ready c.told_rounds_go_on.ensures _ c.self.invariant
