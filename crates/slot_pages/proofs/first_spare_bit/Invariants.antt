use Rattle.std.proofs.Common.{◌≡◌, ◌-◌}
use Rattle.dlm_modes.specs.First.{first_such}
use Rattle.slot_pages.specs.Slot.{page_end, chunk_bit}
use Rattle.slot_pages.specs.Faults.{spare_bit}
use Rattle.slot_pages.proofs.first_spare_bit.Given as goal

abbrev pub invariant-loop-c : goal.invariant-loop-c
invariant-loop-c l = spare_bit l.g l.p l.page.bytes ≡ first_such (chunk_bit l.page.bytes) l.c (page_end l.p - l.c)
