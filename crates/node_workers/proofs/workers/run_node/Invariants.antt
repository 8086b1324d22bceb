use Rattle.std.proofs.Common.{◌≡◌, false}
use Rattle.node_workers.proofs.workers.run_node.Given as goal

abbrev pub invariant-loop-k : goal.invariant-loop-k
invariant-loop-k g l = record {
  next : g.A.Actor.done l.actor ≡ l.k;
  not_ended : g.A.Actor.ended l.actor ≡ false;
  same_made : g.A.Actor.made l.actor ≡ g.A.Actor.made l.initial.actor;
}
