use Rattle.std.proofs.Common.{refl, ap, ◌∙◌}
use Rattle.node_bitmaps.specs.Map.{Map}
use Rattle.node_bitmaps.specs.declared.cells.Cell.{Cell}
use Rattle.node_bitmaps.proofs.MapLaws.{flags_of, as_many}
use Rattle.node_bitmaps.proofs.node_map.NodeMap.needed_into.Goals as goal

pub returns : goal.returns
returns c = flags_of c.needed_into.new.into (λ (x : Cell). x.needed) c.deref.result.now c.self.inside.cells.items c.args.self.now.need refl c.deref.ensures.value (ap (λ (m : Map). m.need) c.self.view_is) (c.needed_into.ensures.chunks ∙ c.requires ∙ as_many c.self.inside.cells.items c.self.inside.fresh.items c.args.self.now c.self.view_is) c.needed_into.ensures.each
