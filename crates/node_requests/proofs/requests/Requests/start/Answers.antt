use Rattle.node_requests.proofs.Guarded.{started_kept}
use Rattle.node_requests.proofs.requests.Requests.start.Goals as goal

pub invariant_of-self : goal.invariant_of-self
invariant_of-self c = started_kept _ _ _ c.args.k _ _ c.requires.node c.self.invariant c.index_mut-flight.ensures.value c.start.ensures
