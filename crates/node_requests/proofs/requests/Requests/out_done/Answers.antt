use Rattle.node_requests.proofs.Guarded.{done_kept}
use Rattle.node_requests.proofs.requests.Requests.out_done.Goals as goal

pub invariant_of-self : goal.invariant_of-self
invariant_of-self c = done_kept _ _ _ c.args.k c.args.l _ _ c.requires.node c.self.invariant c.index_mut-flight.ensures.value c.out_done.ensures
