use Rattle.node_bitmaps.specs.Bitmap.{Bitmap, exited}
use Rattle.node_bits.proofs.MapLaws.{bitmaps_call}
use Rattle.node_bits.proofs.bitmaps.Bitmaps.exit.Goals as goal

pub returns-clause-bits : goal.returns-clause-bits
returns-clause-bits c = rw (← c.self.view_is) (bitmaps_call (λ (m : Bitmap). exited m c.args.c) c.self.inside.geometry c.self.inside.maps.items c.args.n c.index_mut.result.now c.exit.new.self c.self.invariant c.requires.node c.index_mut.ensures.value c.exit.ensures.bits)
