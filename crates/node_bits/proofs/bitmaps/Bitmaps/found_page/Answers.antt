use Rattle.slot_pages.specs.Slot.{page_has}
use Rattle.node_bitmaps.specs.Bitmap.{Bitmap, found_page}
use Rattle.node_bits.proofs.MapLaws.{bitmaps_call, found_size}
use Rattle.node_bits.proofs.bitmaps.Bitmaps.found_page.Goals as goal

pub returns-clause-bits : goal.returns-clause-bits
returns-clause-bits c = rw (← c.self.view_is) (bitmaps_call (λ (m : Bitmap). found_page c.self.inside.geometry m c.args.p (page_has c.self.inside.geometry c.args.p c.args.page.now.bytes)) c.self.inside.geometry c.self.inside.maps.items c.args.n c.index_mut.result.now c.found_page.new.self c.self.invariant c.requires.node c.index_mut.ensures.value (c.found_page.ensures.bits c.self.inside.geometry (found_size c.self.inside.geometry c.self.inside.maps.items c.args.n c.index_mut.result.now c.self.invariant c.requires.node c.index_mut.ensures.value).set))
