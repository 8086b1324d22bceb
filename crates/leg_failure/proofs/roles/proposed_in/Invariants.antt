use Rattle.std.proofs.Common.{◌≡◌, ℕ, ◌&&◌, nat_lt, slice_index_or, length, if◌then◌else◌}
use Rattle.mdc_types.specs.Bits.{has_bit}
use Rattle.mdc_types.specs.declared.roles.Role.TheVariants.{Spare}
use Rattle.leg_failure.specs.Sets.{given_up}
use Rattle.leg_failure.proofs.roles.proposed_in.Given as goal

abbrev pub invariant-loop-l : goal.invariant-loop-l
invariant-loop-l l =
    (length l.legs ≡ 8) × ((k : ℕ) → slice_index_or l.legs k Spare ≡ (if nat_lt k l.l && has_bit l.lost k then given_up (slice_index_or l.initial.legs k Spare) else slice_index_or l.initial.legs k Spare))
