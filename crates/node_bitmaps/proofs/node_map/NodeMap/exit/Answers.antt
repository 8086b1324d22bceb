use Rattle.std.proofs.Common.{refl, arith}
use Rattle.std.proofs.lemmas.List.{with_items_is}
use Rattle.std.proofs.lemmas.Bool.Decides.{nat_tests}
use Rattle.node_bitmaps.specs.Bitmap.{exited, Bitmap}
use Rattle.node_bitmaps.proofs.MapLaws.{step_from, whole_after, bits_after, size_after}
use Rattle.node_bitmaps.proofs.node_map.NodeMap.exit.Goals as goal

pub invariant_of-self : goal.invariant_of-self
invariant_of-self c = whole_after _ c.exit.new.cells c.self.inside.cells.items _ c.self.inside.fresh.items c.self.inside.fresh.items (λ (m : Bitmap). exited m c.args.c) (with_items_is c.self.inside.cells c.exit.new.cells (omega arith)) refl (omega arith) refl c.self.invariant (step_from c.exit.new.cells c.deref_mut.result.now c.self.inside.cells.items c.self.inside.fresh.items c.self.inside.fresh.items c.self.inside.fresh.items (λ (m : Bitmap). exited m c.args.c) c.deref_mut.ensures.value refl (c.exit.ensures c.self.inside.fresh.items)) (λ k. let few = c.self.invariant.writes k in grind (arith, nat_tests))

pub returns-clause-bits : goal.returns-clause-bits
returns-clause-bits c = bits_after _ c.exit.new.cells c.self.inside.cells.items _ c.self.inside.fresh.items c.self.inside.fresh.items c.args.self.now (λ (m : Bitmap). exited m c.args.c) (with_items_is c.self.inside.cells c.exit.new.cells (omega arith)) refl c.self.view_is (step_from c.exit.new.cells c.deref_mut.result.now c.self.inside.cells.items c.self.inside.fresh.items c.self.inside.fresh.items c.self.inside.fresh.items (λ (m : Bitmap). exited m c.args.c) c.deref_mut.ensures.value refl (c.exit.ensures c.self.inside.fresh.items))

pub returns-clause-size : goal.returns-clause-size
returns-clause-size c = size_after _ c.exit.new.cells c.self.inside.cells.items _ c.self.inside.fresh.items c.self.inside.fresh.items c.args.self.now (with_items_is c.self.inside.cells c.exit.new.cells (omega arith)) refl (omega arith) refl c.self.view_is
