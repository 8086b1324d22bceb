use Rattle.map_index.proofs.Indexed.{clear_kept}
use Rattle.map_index.proofs.indexed_map.IndexedMap.clear.Goals as goal

pub invariant_of-self : goal.invariant_of-self
invariant_of-self c = rw c.block_of-b.ensures (clear_kept c.self.inside.map c.clear.new.self c.self.inside.sets.items c.self.inside.needs.items c.args.c c.self.invariant (rw c.self.view_is c.requires) c.clear.ensures.size c.has_one.result c.clear.ensures.bits (rw c.block_of-b.ensures at c.has_one.ensures))
