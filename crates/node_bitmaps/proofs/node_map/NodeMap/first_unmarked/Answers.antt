use Rattle.std.proofs.Common.{◌∙◌}
use Rattle.node_bitmaps.proofs.LookLaws.{unmarked_is}
use Rattle.node_bitmaps.proofs.node_map.NodeMap.first_unmarked.Goals as goal

pub returns : goal.returns
returns c = λ g size. c.first_unmarked.ensures
    ∙ unmarked_is c.deref.result.now c.self.inside.cells.items c.self.inside.fresh.items
    c.args.self.now g c.args.targets c.pages.result c.deref.ensures.value c.self.view_is size
    c.pages.ensures
