use Rattle.std.proofs.Common.{arith, ◌≡◌, length, replicate}
use Rattle.node_bitmaps.proofs.OpenLaws.{all_alike}
use Rattle.node_bitmaps.proofs.cells.open_member.Goals as goal

pub returns : goal.returns
returns c = rw (c.fill.ensures.after (λ y e. e), c.fill-2.ensures.after (λ y e. e), c.opened_cell.ensures) (all_alike (length c.args.cells.now) (length c.args.fresh.now) c.args.legs c.legs_below-all.result c.args.warm c.legs_below-all.ensures)
