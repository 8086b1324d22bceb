use Rattle.std.proofs.Common.{◌≡◌, ℕ, ◌<◌, ◌≤◌, max, false, nat_lt, ◌&&◌, get_or}
use Rattle.mdc_types.specs.Geometry.{page_of}
use Rattle.mdc_types.specs.Sectors.{IsSector}
use Rattle.slot_pages.specs.Slot.{page_start, chunk_bit, header_byte}
use Rattle.slot_pages.proofs.page_of_flags.Given as goal

abbrev pub invariant-loop-c : goal.invariant-loop-c
invariant-loop-c g l = record {
  sector : IsSector l.page.bytes;
  upto : l.c ≤ max (page_start l.p) l.c-end;
  header : l.p ≡ 0 → (i : ℕ) → i < 256 → get_or l.page.bytes i 0 ≡ header_byte l.g l.uuid i;
  bits : (k : ℕ) → page_of k ≡ l.p → chunk_bit l.page.bytes k ≡ (nat_lt k l.c && get_or (g.F.Flags.flags l.set) k false);
}
