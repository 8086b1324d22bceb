use Rattle.std.proofs.Common.{◌≡◌, ◌-◌, not, ◌&&◌}
use Rattle.dlm_modes.specs.First.{first_such}
use Rattle.mdc_types.specs.Bits.{has_bit}
use Rattle.mdc_types.proofs.pages.leg_without.Given as goal

abbrev pub invariant-loop-l : goal.invariant-loop-l
invariant-loop-l l = first_such (λ k. has_bit l.legs k && not (has_bit l.done k)) 0 8 ≡ first_such (λ k. has_bit l.legs k && not (has_bit l.done k)) l.l (8 - l.l)
