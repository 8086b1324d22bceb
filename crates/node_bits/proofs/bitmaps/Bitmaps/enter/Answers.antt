use Rattle.node_bitmaps.specs.Bitmap.{Bitmap, entered}
use Rattle.node_bits.proofs.MapLaws.{bitmaps_call}
use Rattle.node_bits.proofs.bitmaps.Bitmaps.enter.Goals as goal

pub returns-clause-bits : goal.returns-clause-bits
returns-clause-bits c = rw (← c.self.view_is) (bitmaps_call (λ (m : Bitmap). entered m c.args.c) c.self.inside.geometry c.self.inside.maps.items c.args.n c.index_mut.result.now c.enter.new.self c.self.invariant c.requires.node c.index_mut.ensures.value c.enter.ensures.bits)
