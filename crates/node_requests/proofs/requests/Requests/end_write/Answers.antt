use Rattle.std.proofs.Common.{sym}
use Rattle.node_requests.proofs.Guarded.{ended_kept}
use Rattle.node_requests.proofs.requests.Requests.end_write.Goals as goal

pub invariant_of-self : goal.invariant_of-self
invariant_of-self c = ended_kept _ _ _ _ c.args.k c.in-Some.w.now _ _ c.requires.node c.self.invariant c.index_mut-flight.ensures.value (sym c.in-Some.ensures) c.end.ensures.writers c.end_write.ensures
