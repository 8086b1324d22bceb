use Rattle.std.proofs.Common.{◌∙◌, false, get_or}
use Rattle.node_bitmaps.proofs.LookLaws.{unmarked_of_is}
use Rattle.node_bitmaps.proofs.node_map.NodeMap.unmarked_target_of.Goals as goal

pub returns : goal.returns
returns c = λ g size. c.unmarked_target_of.ensures
    ∙ unmarked_of_is c.deref.result.now c.self.inside.cells.items c.self.inside.fresh.items
    c.args.self.now g c.args.targets (λ k. get_or c.args.chunks.now k false) c.deref.ensures.value
    c.self.view_is size
