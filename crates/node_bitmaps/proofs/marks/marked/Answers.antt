use Rattle.std.proofs.Common.{arith}
use Rattle.node_bitmaps.proofs.FlagLaws.{has_bit-and}
use Rattle.node_bitmaps.proofs.marks.marked.Goals as goal

pub returns-then-cell : goal.returns-then-cell
returns-then-cell c = λ l. let both = has_bit-and c.args.legs c.args.cell.marks l in grind arith
