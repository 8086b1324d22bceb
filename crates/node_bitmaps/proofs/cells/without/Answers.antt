use Rattle.std.proofs.Common.{arith}
use Rattle.node_bitmaps.proofs.FlagLaws.{has_bit-without}
use Rattle.node_bitmaps.proofs.cells.without.Goals as goal

pub returns : goal.returns
returns c = λ k. has_bit-without c.args.legs c.args.gone k (omega arith) (omega arith)
