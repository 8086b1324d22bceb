use Rattle.std.specs.Prelude.{true}
use Rattle.node_bitmaps.specs.Bitmap.{Bitmap, with_need}
use Rattle.node_bits.proofs.MapLaws.{bitmaps_call}
use Rattle.node_bits.proofs.bitmaps.Bitmaps.need.Goals as goal

pub returns-clause-bits : goal.returns-clause-bits
returns-clause-bits c = rw (← c.self.view_is) (bitmaps_call (λ (m : Bitmap). with_need m c.args.c true) c.self.inside.geometry c.self.inside.maps.items c.args.n c.index_mut.result.now c.need.new.self c.self.invariant c.requires.node c.index_mut.ensures.value c.need.ensures.bits)
