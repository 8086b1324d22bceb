use Rattle.node_copies.specs.Places.{AreAll}
use Rattle.node_copies.specs.Copies.{IsNew, no_place}
use Rattle.node_copies.specs.declared.places.NodeCopy.{NodeCopy}
use Rattle.node_copies.proofs.copies.new_places.Given as goal

abbrev pub invariant-loop : goal.invariant-loop
invariant-loop l = AreAll NodeCopy (IsNew l.g) no_place l.counter l.places.items
