use Rattle.std.proofs.Common.{◌∙◌}
use Rattle.node_bitmaps.proofs.LegLaws.{one_page}
use Rattle.node_bitmaps.proofs.marks.leg_outside.Goals as goal

pub returns : goal.returns
returns c = c.leg_left.ensures ∙ one_page c.args.legs c.args.other
