use Rattle.std.proofs.Common.{◌∙◌}
use Rattle.node_bitmaps.specs.Map.{bitmap_of}
use Rattle.node_bitmaps.proofs.LookLaws.{one_new_leg}
use Rattle.node_bitmaps.proofs.node_map.NodeMap.new_leg.Goals as goal

pub returns-clause-bits : goal.returns-clause-bits
returns-clause-bits c = c.new_legs.ensures.bits ∙ one_new_leg (bitmap_of c.args.self.now) c.with_leg.result c.args.leg c.with_leg.ensures
