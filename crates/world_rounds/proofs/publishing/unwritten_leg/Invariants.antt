use Rattle.std.proofs.Common.{◌≡◌, ◌-◌, not, ◌&&◌}
use Rattle.dlm_modes.specs.First.{first_such}
use Rattle.mdc_types.specs.Bits.{has_bit}
use Rattle.mdc_types.specs.Roles.{role_of, is_written}
use Rattle.world_rounds.proofs.publishing.unwritten_leg.Given as goal

abbrev pub invariant-loop-l : goal.invariant-loop-l
invariant-loop-l l =
    first_such (λ k. is_written (role_of l.offer.roles k) && not (has_bit l.offer.written k)) 0 8
    ≡ first_such (λ k. is_written (role_of l.offer.roles k) && not (has_bit l.offer.written k)) l.l (8 - l.l)
