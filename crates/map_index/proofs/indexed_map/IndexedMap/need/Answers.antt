use Rattle.map_index.proofs.Indexed.{need_kept}
use Rattle.map_index.proofs.indexed_map.IndexedMap.need.Goals as goal

pub invariant_of-self : goal.invariant_of-self
invariant_of-self c = rw c.block_of.ensures (need_kept c.self.inside.map c.need.new.self c.self.inside.sets.items c.self.inside.needs.items c.args.c c.self.invariant (rw c.self.view_is c.requires) c.need.ensures.size c.need.ensures.bits)
