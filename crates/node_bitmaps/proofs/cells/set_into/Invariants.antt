use Rattle.std.proofs.Common.{◌≡◌, ℕ, false, nat_lt, if◌then◌else◌, length, get_or}
use Rattle.node_bitmaps.specs.Cells.{cell_at}
use Rattle.node_bitmaps.proofs.cells.set_into.Given as goal

abbrev pub invariant-loop-c : goal.invariant-loop-c
invariant-loop-c l = record {
  chunks : length l.into ≡ length l.fn.into;
  each : (k : ℕ) → get_or l.into k false ≡ (if nat_lt k l.c then (cell_at l.cells k).set else get_or l.fn.into k false);
}
