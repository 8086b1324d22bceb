use Rattle.std.proofs.Common.{◌≡◌, ℕ, ◌&&◌, not, nat_lt, slice_index_or}
use Rattle.mdc_types.specs.Bits.{has_bit}
use Rattle.mdc_types.specs.declared.roles.Role.TheVariants.{Spare}
use Rattle.leg_failure.specs.Sets.{is_same}
use Rattle.leg_failure.proofs.roles.differing_in.Given as goal

abbrev pub invariant-loop-l : goal.invariant-loop-l
invariant-loop-l l = (k : ℕ) → has_bit l.set k ≡ (nat_lt k l.l && not (is_same (slice_index_or l.legs k Spare) (slice_index_or l.others k Spare)))
