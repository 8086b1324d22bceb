use Rattle.std.proofs.Common.{◌≡◌, ℕ, nat_lt, if◌then◌else◌}
use Rattle.node_bitmaps.specs.Cells.{cell_at, no_cell}
use Rattle.node_bitmaps.proofs.cells.forget.Given as goal

abbrev pub invariant-loop-c : goal.invariant-loop-c
invariant-loop-c l = (c : ℕ) → cell_at l.cells c ≡ (if nat_lt c l.c then record no_cell { marks = (cell_at l.fn.cells c).marks } else cell_at l.fn.cells c)
