use Rattle.std.proofs.Common.{◌≡◌, ◌<◌, ◌^◌, ◌&&◌, ℕ, nat_lt}
use Rattle.mdc_types.specs.Bits.{has_bit}
use Rattle.image_array.specs.Heads.{is_pending}
use Rattle.image_array.proofs.marks.pending_slots.Given as goal

abbrev pub invariant-loop-k : goal.invariant-loop-k
invariant-loop-k i = record {
  bits : (j : ℕ) → has_bit i.slots j ≡ (nat_lt j i.k && is_pending i.images i.roles j);
  range : i.slots < 2 ^ i.k;
}
