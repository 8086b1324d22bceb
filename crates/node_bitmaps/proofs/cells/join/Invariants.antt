use Rattle.std.proofs.Common.{◌≡◌, ℕ, ◌≤◌, max, ◌&&◌, ◌||◌}
use Rattle.mdc_types.specs.Ranges.{holds}
use Rattle.slot_pages.specs.Slot.{page_start, chunk_bit}
use Rattle.node_bitmaps.specs.Cells.{cell_at, SameButNeed}
use Rattle.node_bitmaps.proofs.cells.join.Given as goal

abbrev pub invariant-loop-c : goal.invariant-loop-c
invariant-loop-c l = record {
  upto : l.c ≤ max (page_start l.p) l.c-end;
  others : (k : ℕ) → SameButNeed (cell_at l.fn.cells k) (cell_at l.cells k);
  set : (k : ℕ) → (cell_at l.cells k).set ≡ ((cell_at l.fn.cells k).set ||
      (holds (page_start l.p) l.c k && chunk_bit l.page.bytes k));
  need : (k : ℕ) → (cell_at l.cells k).needed ≡
      ((cell_at l.fn.cells k).needed || (holds (page_start l.p) l.c k && chunk_bit l.page.bytes
      k));
}
