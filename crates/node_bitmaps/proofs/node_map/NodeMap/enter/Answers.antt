use Rattle.std.proofs.Common.{ℕ, ◌<◌, refl, sym, subst, get_or, arith}
use Rattle.node_bitmaps.specs.Map.{Map}
use Rattle.node_bitmaps.specs.declared.cells.Cell.{Cell}
use Rattle.std.proofs.lemmas.List.{with_items_is}
use Rattle.std.proofs.lemmas.Bool.Decides.{nat_tests}
use Rattle.node_bitmaps.specs.Bitmap.{entered, Bitmap}
use Rattle.node_bitmaps.specs.Cells.{cell_at}
use Rattle.node_bitmaps.proofs.MapLaws.{step_from, part_at, whole_after, bits_after, size_after}
use Rattle.node_bitmaps.proofs.node_map.NodeMap.enter.Goals as goal

pub invariant_of-self : goal.invariant_of-self
invariant_of-self c = whole_after _ c.enter.new.cells c.self.inside.cells.items _ c.self.inside.fresh.items c.self.inside.fresh.items (λ (m : Bitmap). entered m c.args.c) (with_items_is c.self.inside.cells c.enter.new.cells (omega arith)) refl (omega arith) refl c.self.invariant (step_from c.enter.new.cells c.deref_mut.result.now c.self.inside.cells.items c.self.inside.fresh.items c.self.inside.fresh.items c.self.inside.fresh.items (λ (m : Bitmap). entered m c.args.c) c.deref_mut.ensures.value refl (c.enter.ensures c.self.inside.fresh.items)) (λ k. let few = c.self.invariant.writes k in let room : (cell_at c.self.inside.cells.items c.args.c).writes < 16 = subst (λ (n : ℕ). n < 16) (part_at (λ (x : Cell). x.writes) c.self.inside.cells.items c.args.c) (subst (λ (m : Map). get_or m.writes c.args.c 0 < 16) (sym c.self.view_is) c.requires.room) in grind (arith, nat_tests))

pub returns-clause-bits : goal.returns-clause-bits
returns-clause-bits c = bits_after _ c.enter.new.cells c.self.inside.cells.items _ c.self.inside.fresh.items c.self.inside.fresh.items c.args.self.now (λ (m : Bitmap). entered m c.args.c) (with_items_is c.self.inside.cells c.enter.new.cells (omega arith)) refl c.self.view_is (step_from c.enter.new.cells c.deref_mut.result.now c.self.inside.cells.items c.self.inside.fresh.items c.self.inside.fresh.items c.self.inside.fresh.items (λ (m : Bitmap). entered m c.args.c) c.deref_mut.ensures.value refl (c.enter.ensures c.self.inside.fresh.items))

pub returns-clause-size : goal.returns-clause-size
returns-clause-size c = size_after _ c.enter.new.cells c.self.inside.cells.items _ c.self.inside.fresh.items c.self.inside.fresh.items c.args.self.now (with_items_is c.self.inside.cells c.enter.new.cells (omega arith)) refl (omega arith) refl c.self.view_is
