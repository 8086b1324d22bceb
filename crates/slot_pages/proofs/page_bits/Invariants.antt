use Rattle.std.proofs.Common.{◌≡◌, ℕ, ◌≤◌, max, false, length, get_or, ◌||◌, ◌&&◌}
use Rattle.mdc_types.specs.Ranges.{holds}
use Rattle.slot_pages.specs.Slot.{page_start, chunk_bit}
use Rattle.slot_pages.proofs.page_bits.Given as goal

abbrev pub invariant-loop-c : goal.invariant-loop-c
invariant-loop-c l = record {
  upto : l.c ≤ max (page_start l.p) l.c-end;
  chunks : length l.into ≡ length l.fn.into;
  each : (k : ℕ) → get_or l.into k false ≡ (get_or l.fn.into k false || (holds (page_start l.p) l.c k && chunk_bit l.page.bytes k));
}
