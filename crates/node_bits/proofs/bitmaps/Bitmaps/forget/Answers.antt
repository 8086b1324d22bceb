use Rattle.node_bitmaps.specs.Bitmap.{Bitmap, forgotten}
use Rattle.node_bits.proofs.MapLaws.{bitmaps_call}
use Rattle.node_bits.proofs.bitmaps.Bitmaps.forget.Goals as goal

pub returns-clause-bits : goal.returns-clause-bits
returns-clause-bits c = rw (← c.self.view_is) (bitmaps_call (λ (m : Bitmap). forgotten m) c.self.inside.geometry c.self.inside.maps.items c.args.n c.index_mut.result.now c.forget.new.self c.self.invariant c.requires c.index_mut.ensures.value c.forget.ensures.bits)
