use Rattle.std.proofs.Common.{◌≡◌, ◌-◌, ◌≤◌, max, not, ◌&&◌, length}
use Rattle.std.specs.Prelude.{is_some}
use Rattle.dlm_modes.specs.First.{first_such}
use Rattle.slot_pages.specs.Slot.{page_start}
use Rattle.node_bitmaps.specs.Cells.{cell_at, page_chunk}
use Rattle.node_bitmaps.proofs.cells.brings_new.Given as goal

abbrev pub invariant-loop-c : goal.invariant-loop-c
invariant-loop-c l = record {
  upto : l.c ≤ max (page_start l.p) l.c-end;
  rest : is_some (first_such (λ c. page_chunk (length l.cells) l.p l.page.bytes c && not
      (cell_at l.cells c).set) 0 (length l.cells))
      ≡ is_some (first_such (λ c. page_chunk (length l.cells) l.p l.page.bytes c && not
      (cell_at l.cells c).set) l.c (length l.cells - l.c));
}
