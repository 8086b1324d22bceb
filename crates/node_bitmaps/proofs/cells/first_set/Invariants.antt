use Rattle.std.proofs.Common.{◌≡◌, ◌-◌, length}
use Rattle.dlm_modes.specs.First.{first_such}
use Rattle.node_bitmaps.specs.Cells.{cell_at}
use Rattle.node_bitmaps.proofs.cells.first_set.Given as goal

abbrev pub invariant-loop-c : goal.invariant-loop-c
invariant-loop-c l = first_such (λ c. (cell_at l.cells c).set) l.from (length l.cells - l.from) ≡ first_such (λ c. (cell_at l.cells c).set) l.c (length l.cells - l.c)
