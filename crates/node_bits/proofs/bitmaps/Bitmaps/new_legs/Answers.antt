use Rattle.mdc_types.specs.Bits.{has_bit}
use Rattle.node_bitmaps.specs.Bitmap.{Bitmap, with_new_legs}
use Rattle.node_bits.proofs.MapLaws.{bitmaps_call}
use Rattle.node_bits.proofs.bitmaps.Bitmaps.new_legs.Goals as goal

pub returns-clause-bits : goal.returns-clause-bits
returns-clause-bits c = rw (← c.self.view_is) (bitmaps_call (λ (m : Bitmap). with_new_legs m (has_bit c.args.legs)) c.self.inside.geometry c.self.inside.maps.items c.args.n c.index_mut.result.now c.new_legs.new.self c.self.invariant c.requires c.index_mut.ensures.value c.new_legs.ensures.bits)
