use Rattle.node_bits.proofs.MapLaws.{new_more}
use Rattle.node_bits.proofs.bitmaps.new_maps.Goals as goal

pub loop-preserved : goal.loop-preserved
loop-preserved c = rw c.in_ok-push.ensures.items (new_more c.args.g.now c.loop.counter c.loop.maps.items c.in_ok-new.field-0 c.loop.invariant c.in_ok-new.ensures.bits c.in_ok-new.ensures.size)
