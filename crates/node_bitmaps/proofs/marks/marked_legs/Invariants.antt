use Rattle.std.proofs.Common.{◌≡◌, ℕ, ◌-◌, ◌<◌, ◌≤◌, ◌==◌, max, not, ◌&&◌, length}
use Rattle.std.specs.Prelude.{is_some}
use Rattle.dlm_modes.specs.First.{first_such}
use Rattle.mdc_types.specs.Bits.{has_bit}
use Rattle.mdc_types.specs.Geometry.{page_of}
use Rattle.slot_pages.specs.Slot.{page_start}
use Rattle.node_bitmaps.specs.Cells.{cell_at, lacks}
use Rattle.node_bitmaps.proofs.marks.marked_legs.Given as goal

abbrev pub invariant-loop-c : goal.invariant-loop-c
invariant-loop-c l = record {
  upto : l.c ≤ max (page_start l.p) l.c-end;
  rest : (k : ℕ) → k < 8 → not (lacks l.cells (λ c. page_of c == l.p) k)
      ≡ (has_bit l.legs k && not (is_some (first_such
      (λ c. (page_of c == l.p) && ((cell_at l.cells c).set && not
      (has_bit (cell_at l.cells c).marks k))) l.c (length l.cells - l.c))));
}
