use Rattle.std.proofs.Common.{false, refl, arith}
use Rattle.std.proofs.lemmas.List.{with_items_is}
use Rattle.node_bitmaps.specs.Bitmap.{with_need, Bitmap}
use Rattle.node_bitmaps.proofs.MapLaws.{step_from, whole_after, bits_after, size_after}
use Rattle.node_bitmaps.proofs.node_map.NodeMap.settled.Goals as goal

pub invariant_of-self : goal.invariant_of-self
invariant_of-self c = whole_after _ c.set_need.new.cells c.self.inside.cells.items _ c.self.inside.fresh.items c.self.inside.fresh.items (λ (m : Bitmap). with_need m c.args.c false) (with_items_is c.self.inside.cells c.set_need.new.cells (omega arith)) refl (omega arith) refl c.self.invariant (step_from c.set_need.new.cells c.deref_mut.result.now c.self.inside.cells.items c.self.inside.fresh.items c.self.inside.fresh.items c.self.inside.fresh.items (λ (m : Bitmap). with_need m c.args.c false) c.deref_mut.ensures.value refl (c.set_need.ensures c.self.inside.fresh.items)) c.self.invariant.writes

pub returns-clause-bits : goal.returns-clause-bits
returns-clause-bits c = bits_after _ c.set_need.new.cells c.self.inside.cells.items _ c.self.inside.fresh.items c.self.inside.fresh.items c.args.self.now (λ (m : Bitmap). with_need m c.args.c false) (with_items_is c.self.inside.cells c.set_need.new.cells (omega arith)) refl c.self.view_is (step_from c.set_need.new.cells c.deref_mut.result.now c.self.inside.cells.items c.self.inside.fresh.items c.self.inside.fresh.items c.self.inside.fresh.items (λ (m : Bitmap). with_need m c.args.c false) c.deref_mut.ensures.value refl (c.set_need.ensures c.self.inside.fresh.items))

pub returns-clause-size : goal.returns-clause-size
returns-clause-size c = size_after _ c.set_need.new.cells c.self.inside.cells.items _ c.self.inside.fresh.items c.self.inside.fresh.items c.args.self.now (with_items_is c.self.inside.cells c.set_need.new.cells (omega arith)) refl (omega arith) refl c.self.view_is
