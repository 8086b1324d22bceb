use Rattle.std.proofs.Common.{◌≡◌, get_or}
use Rattle.mdc_types.specs.Bits.{has_bit}
use Rattle.read_balance.proofs.Choices.{nearest_below}
use Rattle.read_balance.proofs.nearest_leg.Given as goal

abbrev pub invariant-loop-l : goal.invariant-loop-l
invariant-loop-l l = l.nearest ≡ nearest_below (has_bit l.working) (λ k. get_or l.heads k 0) l.s l.l
