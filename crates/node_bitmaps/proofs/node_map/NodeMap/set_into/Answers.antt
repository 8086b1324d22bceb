use Rattle.std.proofs.Common.{refl, ap, ◌∙◌}
use Rattle.node_bitmaps.specs.Map.{Map}
use Rattle.node_bitmaps.specs.declared.cells.Cell.{Cell}
use Rattle.node_bitmaps.proofs.MapLaws.{flags_of}
use Rattle.node_bitmaps.proofs.node_map.NodeMap.set_into.Goals as goal

pub returns : goal.returns
returns c = flags_of c.set_into.new.into (λ (x : Cell). x.set) c.deref.result.now c.self.inside.cells.items c.args.self.now.set refl c.deref.ensures.value (ap (λ (m : Map). m.set) c.self.view_is) (c.set_into.ensures.chunks ∙ c.requires) c.set_into.ensures.each
