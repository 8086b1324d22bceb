use Rattle.std.proofs.Common.{◌≡◌, ◌-◌}
use Rattle.dlm_modes.specs.First.{first_such}
use Rattle.mdc_types.specs.Bits.{has_bit}
use Rattle.read_balance.proofs.least_leg.Given as goal

abbrev pub invariant-loop-l : goal.invariant-loop-l
invariant-loop-l l = first_such (has_bit l.working) 0 8 ≡ first_such (has_bit l.working) l.l (8 - l.l)
