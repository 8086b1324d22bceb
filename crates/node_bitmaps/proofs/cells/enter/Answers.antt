use Rattle.std.proofs.Common.{arith}
use Rattle.std.proofs.lemmas.Bool.Decides.{nat_tests}
use Rattle.node_bitmaps.proofs.CellLaws.{cell_at-set}
use Rattle.node_bitmaps.proofs.cells.enter.Goals as goal

pub returns : goal.returns
returns c = λ fresh. grind (arith, nat_tests, cell_at-set)
