use Rattle.std.proofs.Common.{◌≡◌, false}
use Rattle.node_workers.proofs.workers.make_call.Given as goal

abbrev pub invariant-loop : goal.invariant-loop
invariant-loop g l = record {
  goes_on : (goal.iterator-loop g).can_next l.iterator' × (goal.iterator-loop g).is_finite l.iterator';
  next : g.A.Actor.done l.actor ≡ l.k;
  not_ended : g.A.Actor.ended l.actor ≡ false;
  same_made : g.A.Actor.made l.actor ≡ g.A.Actor.made l.initial.actor;
}
