use Rattle.std.proofs.Common.{◌∙◌, ap, sym, List, length, arith}
use Rattle.std.proofs.lemmas.List.{with_items_is}
use Rattle.mdc_types.specs.Geometry.{chunks_of}
use Rattle.slot_pages.specs.Slot.{page_has}
use Rattle.node_bitmaps.specs.Bitmap.{found_page, Bitmap}
use Rattle.node_bitmaps.specs.declared.cells.Cell.{Cell}
use Rattle.node_bitmaps.proofs.MapLaws.{step_from, whole_after, bits_after, size_after}
use Rattle.node_bitmaps.proofs.LookLaws.{plain, chunks_of-plain, as_many}
use Rattle.node_bitmaps.proofs.node_map.NodeMap.found_page.Goals as goal

pub invariant_of-self : goal.invariant_of-self
invariant_of-self c =
    let g = plain (length c.deref_mut.result.now) in
    whole_after _ c.found_page.new.cells c.self.inside.cells.items _ c.found_page.new.fresh
    c.self.inside.fresh.items (λ (m : Bitmap). found_page g m c.args.p
    (page_has g c.args.p c.args.page.now.bytes))
    (with_items_is c.self.inside.cells c.found_page.new.cells (omega arith))
    (with_items_is c.self.inside.fresh c.found_page.new.fresh (omega arith)) (omega arith)
    (omega arith) c.self.invariant (step_from c.found_page.new.cells c.deref_mut.result.now
    c.self.inside.cells.items c.found_page.new.fresh c.deref_mut-2.result.now
    c.self.inside.fresh.items (λ (m : Bitmap). found_page g m c.args.p
    (page_has g c.args.p c.args.page.now.bytes)) c.deref_mut.ensures.value
    c.deref_mut-2.ensures.value (c.found_page.ensures g
    (sym (chunks_of-plain (length c.deref_mut.result.now))))) c.self.invariant.writes

pub returns-clause-bits : goal.returns-clause-bits
returns-clause-bits c = λ g size.
    bits_after _ c.found_page.new.cells c.self.inside.cells.items _ c.found_page.new.fresh
    c.self.inside.fresh.items c.args.self.now
    (λ (m : Bitmap). found_page g m c.args.p (page_has g c.args.p c.args.page.now.bytes))
    (with_items_is c.self.inside.cells c.found_page.new.cells (omega arith))
    (with_items_is c.self.inside.fresh c.found_page.new.fresh (omega arith)) c.self.view_is
    (step_from c.found_page.new.cells c.deref_mut.result.now c.self.inside.cells.items
    c.found_page.new.fresh c.deref_mut-2.result.now c.self.inside.fresh.items
    (λ (m : Bitmap). found_page g m c.args.p (page_has g c.args.p c.args.page.now.bytes))
    c.deref_mut.ensures.value c.deref_mut-2.ensures.value
    (c.found_page.ensures g (ap (λ (xs : List Cell). length xs) c.deref_mut.ensures.value
    ∙ as_many c.self.inside.cells.items c.self.inside.fresh.items c.args.self.now (chunks_of g)
    c.self.view_is size)))

pub returns-clause-size : goal.returns-clause-size
returns-clause-size c = size_after _ c.found_page.new.cells c.self.inside.cells.items _
    c.found_page.new.fresh c.self.inside.fresh.items c.args.self.now
    (with_items_is c.self.inside.cells c.found_page.new.cells (omega arith))
    (with_items_is c.self.inside.fresh c.found_page.new.fresh (omega arith)) (omega arith)
    (omega arith) c.self.view_is
