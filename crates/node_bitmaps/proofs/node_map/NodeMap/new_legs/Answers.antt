use Rattle.std.proofs.Common.{arith}
use Rattle.std.proofs.lemmas.List.{with_items_is}
use Rattle.mdc_types.specs.Bits.{has_bit}
use Rattle.node_bitmaps.specs.Bitmap.{with_new_legs, Bitmap}
use Rattle.node_bitmaps.proofs.MapLaws.{step_from, whole_after, bits_after, size_after}
use Rattle.node_bitmaps.proofs.node_map.NodeMap.new_legs.Goals as goal

pub invariant_of-self : goal.invariant_of-self
invariant_of-self c = whole_after _ c.new_legs.new.cells c.self.inside.cells.items _
    c.new_legs.new.fresh c.self.inside.fresh.items
    (λ (m : Bitmap). with_new_legs m (has_bit c.args.legs))
    (with_items_is c.self.inside.cells c.new_legs.new.cells (omega arith))
    (with_items_is c.self.inside.fresh c.new_legs.new.fresh (omega arith)) (omega arith)
    (omega arith) c.self.invariant (step_from c.new_legs.new.cells c.deref_mut.result.now
    c.self.inside.cells.items c.new_legs.new.fresh c.deref_mut-2.result.now
    c.self.inside.fresh.items (λ (m : Bitmap). with_new_legs m (has_bit c.args.legs))
    c.deref_mut.ensures.value c.deref_mut-2.ensures.value c.new_legs.ensures)
    c.self.invariant.writes

pub returns-clause-bits : goal.returns-clause-bits
returns-clause-bits c = bits_after _ c.new_legs.new.cells c.self.inside.cells.items _
    c.new_legs.new.fresh c.self.inside.fresh.items c.args.self.now
    (λ (m : Bitmap). with_new_legs m (has_bit c.args.legs))
    (with_items_is c.self.inside.cells c.new_legs.new.cells (omega arith))
    (with_items_is c.self.inside.fresh c.new_legs.new.fresh (omega arith)) c.self.view_is
    (step_from c.new_legs.new.cells c.deref_mut.result.now c.self.inside.cells.items
    c.new_legs.new.fresh c.deref_mut-2.result.now c.self.inside.fresh.items
    (λ (m : Bitmap). with_new_legs m (has_bit c.args.legs)) c.deref_mut.ensures.value
    c.deref_mut-2.ensures.value c.new_legs.ensures)

pub returns-clause-size : goal.returns-clause-size
returns-clause-size c = size_after _ c.new_legs.new.cells c.self.inside.cells.items _
    c.new_legs.new.fresh c.self.inside.fresh.items c.args.self.now
    (with_items_is c.self.inside.cells c.new_legs.new.cells (omega arith))
    (with_items_is c.self.inside.fresh c.new_legs.new.fresh (omega arith)) (omega arith)
    (omega arith) c.self.view_is
