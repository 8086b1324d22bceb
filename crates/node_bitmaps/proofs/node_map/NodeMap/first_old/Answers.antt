use Rattle.std.proofs.Common.{◌∙◌}
use Rattle.node_bitmaps.proofs.LookLaws.{old_is}
use Rattle.node_bitmaps.proofs.node_map.NodeMap.first_old.Goals as goal

pub returns : goal.returns
returns c = λ g size. c.first_page_left.ensures
    ∙ old_is c.deref.result.now c.self.inside.cells.items c.self.inside.fresh.items c.args.self.now
    g c.args.targets c.deref.ensures.value c.self.view_is size
