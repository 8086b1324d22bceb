use Rattle.std.proofs.Common.{◌≡◌, ◌-◌, false, ◌&&◌, length, get_or}
use Rattle.dlm_modes.specs.First.{first_such}
use Rattle.node_bitmaps.specs.Cells.{cell_at}
use Rattle.node_bitmaps.proofs.cells.first_needed_of.Given as goal

abbrev pub invariant-loop-c : goal.invariant-loop-c
invariant-loop-c l =
    first_such (λ c. get_or l.chunks c false && (cell_at l.cells c).needed) 0 (length l.cells)
    ≡ first_such (λ c. get_or l.chunks c false && (cell_at l.cells c).needed) l.c
    (length l.cells - l.c)
