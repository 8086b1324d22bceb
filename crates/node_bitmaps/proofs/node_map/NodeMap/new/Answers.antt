use Rattle.node_bitmaps.proofs.MapLaws.{new_map}
use Rattle.node_bitmaps.proofs.node_map.NodeMap.new.Goals as goal

pub returns-clause-bits : goal.returns-clause-bits
returns-clause-bits c = new_map _ _ _ _ (c.in_ok-vec.ensures.items_if_clones_equal (λ y e. e)) (c.in_ok-vec-2.ensures.items_if_clones_equal (λ y e. e))
