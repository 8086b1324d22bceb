use Rattle.node_bits.specs.Bitmaps.{AreNew}
use Rattle.node_bits.proofs.bitmaps.new_maps.Given as goal

abbrev pub invariant-loop : goal.invariant-loop
invariant-loop l = AreNew l.g l.counter l.maps.items
