use Rattle.node_copies.specs.Places.{AreAll}
use Rattle.node_copies.specs.Additions.{IsNew, no_place}
use Rattle.node_copies.specs.declared.places.NodeAdding.{NodeAdding}
use Rattle.node_copies.proofs.additions.new_places.Given as goal

abbrev pub invariant-loop : goal.invariant-loop
invariant-loop l = AreAll NodeAdding (IsNew l.g) no_place l.counter l.places.items
