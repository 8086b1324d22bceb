use Rattle.map_index.proofs.Indexed.{settled_kept}
use Rattle.map_index.proofs.indexed_map.IndexedMap.settled.Goals as goal

pub invariant_of-self : goal.invariant_of-self
invariant_of-self c = rw c.block_of-b.ensures (settled_kept c.self.inside.map c.settled.new.self c.self.inside.sets.items c.self.inside.needs.items c.args.c c.self.invariant (rw c.self.view_is c.requires) c.settled.ensures.size c.has_one.result c.settled.ensures.bits (rw c.block_of-b.ensures at c.has_one.ensures))
