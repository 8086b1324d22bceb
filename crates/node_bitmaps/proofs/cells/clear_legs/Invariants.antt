use Rattle.std.proofs.Common.{◌≡◌, ℕ, nat_lt, not, ◌&&◌}
use Rattle.mdc_types.specs.Bits.{has_bit}
use Rattle.node_bitmaps.specs.Cells.{cell_at, SameButMarks}
use Rattle.node_bitmaps.proofs.cells.clear_legs.Given as goal

abbrev pub invariant-loop-c : goal.invariant-loop-c
invariant-loop-c l = record {
  others : (c : ℕ) → SameButMarks (cell_at l.fn.cells c) (cell_at l.cells c);
  marks : (c k : ℕ) → has_bit (cell_at l.cells c).marks k ≡ (has_bit (cell_at l.fn.cells c).marks k && not (nat_lt c l.c && has_bit l.legs k));
}
