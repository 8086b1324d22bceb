use Rattle.map_index.proofs.Indexed.{set_kept}
use Rattle.map_index.proofs.indexed_map.IndexedMap.set.Goals as goal

pub invariant_of-self : goal.invariant_of-self
invariant_of-self c = rw c.block_of.ensures (set_kept c.self.inside.map c.set.new.self c.self.inside.sets.items c.self.inside.needs.items c.args.c c.self.invariant (rw c.self.view_is c.requires) c.set.ensures.size c.set.ensures.bits)
