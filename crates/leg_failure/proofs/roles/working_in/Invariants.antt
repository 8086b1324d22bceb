use Rattle.std.proofs.Common.{◌≡◌, ℕ, ◌&&◌, nat_lt, slice_index_or}
use Rattle.mdc_types.specs.Bits.{has_bit}
use Rattle.mdc_types.specs.Roles.{is_working}
use Rattle.mdc_types.specs.declared.roles.Role.TheVariants.{Spare}
use Rattle.leg_failure.proofs.roles.working_in.Given as goal

abbrev pub invariant-loop-l : goal.invariant-loop-l
invariant-loop-l l = (k : ℕ) → has_bit l.set k ≡ (nat_lt k l.l && is_working (slice_index_or l.legs k Spare))
