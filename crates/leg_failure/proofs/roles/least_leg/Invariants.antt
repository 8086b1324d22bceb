use Rattle.std.proofs.Common.{◌≡◌, ◌-◌}
use Rattle.dlm_modes.specs.First.{first_such}
use Rattle.mdc_types.specs.Bits.{has_bit}
use Rattle.leg_failure.specs.Sets.{least_of}
use Rattle.leg_failure.proofs.roles.least_leg.Given as goal

abbrev pub invariant-loop-l : goal.invariant-loop-l
invariant-loop-l l = least_of l.set ≡ first_such (has_bit l.set) l.l (8 - l.l)
