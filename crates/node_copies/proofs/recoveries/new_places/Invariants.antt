use Rattle.node_copies.specs.Places.{AreAll}
use Rattle.node_copies.specs.Recoveries.{IsNew, no_place}
use Rattle.node_copies.specs.declared.places.NodeRecovery.{NodeRecovery}
use Rattle.node_copies.proofs.recoveries.new_places.Given as goal

abbrev pub invariant-loop : goal.invariant-loop
invariant-loop l = AreAll NodeRecovery (IsNew l.g) no_place l.counter l.places.items
