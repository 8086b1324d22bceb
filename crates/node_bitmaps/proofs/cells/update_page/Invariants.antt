use Rattle.std.proofs.Common.{◌≡◌, ℕ, ◌≤◌, ◌==◌, max, ◌&&◌, ◌||◌, if◌then◌else◌}
use Rattle.mdc_types.specs.Bits.{has_bit}
use Rattle.mdc_types.specs.Ranges.{holds}
use Rattle.slot_pages.specs.Slot.{page_start}
use Rattle.node_bitmaps.specs.Cells.{cell_at, SameButMarks}
use Rattle.node_bitmaps.proofs.cells.update_page.Given as goal

abbrev pub invariant-loop-c : goal.invariant-loop-c
invariant-loop-c l = record {
  upto : l.c ≤ max (page_start l.p) l.end;
  others : (c : ℕ) → SameButMarks (cell_at l.fn.cells c) (cell_at l.cells c);
  marks : (c k : ℕ) → has_bit (cell_at l.cells c).marks k
      ≡ (if holds (page_start l.p) l.c c && (k == l.leg) then (cell_at l.fn.cells c).set && (l.written || has_bit (cell_at l.fn.cells c).marks k) else has_bit (cell_at l.fn.cells c).marks k);
}
