use Rattle.std.proofs.Common.{ap}
use Rattle.mirror_io.specs.Flight.{Flight}
use Rattle.node_requests.proofs.Guarded.{died_kept}
use Rattle.node_requests.proofs.requests.Requests.die.Goals as goal

pub invariant_of-self : goal.invariant_of-self
invariant_of-self c = died_kept _ _ _ _ _ c.requires c.self.invariant (ap (λ (f : Flight). f.writes) c.die-2.ensures) c.die.ensures.writers
