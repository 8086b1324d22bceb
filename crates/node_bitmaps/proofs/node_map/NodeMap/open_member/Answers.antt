use Rattle.std.proofs.Common.{◌∙◌, length, arith}
use Rattle.std.proofs.lemmas.List.{with_items_is}
use Rattle.node_bitmaps.specs.Bitmap.{Bitmap}
use Rattle.node_bitmaps.specs.Opened.{opened}
use Rattle.node_bitmaps.proofs.OpenLaws.{opened_size}
use Rattle.node_bitmaps.proofs.MapLaws.{step_from, whole_after, bits_after, size_after}
use Rattle.node_bitmaps.proofs.node_map.NodeMap.open_member.Goals as goal

pub invariant_of-self : goal.invariant_of-self
invariant_of-self c = whole_after _ c.open_member.new.cells c.self.inside.cells.items _ c.open_member.new.fresh c.self.inside.fresh.items (λ (m : Bitmap). opened (length c.deref_mut.result.now) (length c.deref_mut-2.result.now) c.args.legs c.args.warm) (with_items_is c.self.inside.cells c.open_member.new.cells (omega arith)) (with_items_is c.self.inside.fresh c.open_member.new.fresh (omega arith)) (omega arith) (omega arith) c.self.invariant (step_from c.open_member.new.cells c.deref_mut.result.now c.self.inside.cells.items c.open_member.new.fresh c.deref_mut-2.result.now c.self.inside.fresh.items (λ (m : Bitmap). opened (length c.deref_mut.result.now) (length c.deref_mut-2.result.now) c.args.legs c.args.warm) c.deref_mut.ensures.value c.deref_mut-2.ensures.value c.open_member.ensures) (λ c. omega arith)

pub returns-clause-bits : goal.returns-clause-bits
returns-clause-bits c = bits_after _ c.open_member.new.cells c.self.inside.cells.items _ c.open_member.new.fresh c.self.inside.fresh.items c.args.self.now (λ (m : Bitmap). opened (length c.deref_mut.result.now) (length c.deref_mut-2.result.now) c.args.legs c.args.warm) (with_items_is c.self.inside.cells c.open_member.new.cells (omega arith)) (with_items_is c.self.inside.fresh c.open_member.new.fresh (omega arith)) c.self.view_is (step_from c.open_member.new.cells c.deref_mut.result.now c.self.inside.cells.items c.open_member.new.fresh c.deref_mut-2.result.now c.self.inside.fresh.items (λ (m : Bitmap). opened (length c.deref_mut.result.now) (length c.deref_mut-2.result.now) c.args.legs c.args.warm) c.deref_mut.ensures.value c.deref_mut-2.ensures.value c.open_member.ensures) ∙ opened_size c.deref_mut.result.now c.self.inside.cells.items c.deref_mut-2.result.now c.self.inside.fresh.items c.args.self.now c.args.legs c.args.warm c.deref_mut.ensures.value c.deref_mut-2.ensures.value c.self.view_is

pub returns-clause-size : goal.returns-clause-size
returns-clause-size c = size_after _ c.open_member.new.cells c.self.inside.cells.items _ c.open_member.new.fresh c.self.inside.fresh.items c.args.self.now (with_items_is c.self.inside.cells c.open_member.new.cells (omega arith)) (with_items_is c.self.inside.fresh c.open_member.new.fresh (omega arith)) (omega arith) (omega arith) c.self.view_is
