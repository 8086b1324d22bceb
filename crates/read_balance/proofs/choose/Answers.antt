use Rattle.std.proofs.Common.{get_or, true, false, arith}
use Rattle.mdc_types.specs.Bits.{has_bit}
use Rattle.read_balance.proofs.Choices.{none_of_set, chosen_within}
use Rattle.read_balance.proofs.choose.Goals as goal

pub returns-then-first_only-clause-none : goal.returns-then-first_only-clause-none
returns-then-first_only-clause-none c = rw c.least_leg.ensures (none_of_set c.args.working (λ k. get_or c.args.heads.now k 0) c.args.s true (omega arith))

pub returns-then-first_only-clause-leg : goal.returns-then-first_only-clause-leg
returns-then-first_only-clause-leg c = rw c.least_leg.ensures (chosen_within (has_bit c.args.working) (λ k. get_or c.args.heads.now k 0) c.args.s true)

pub returns-else-first_only-clause-none : goal.returns-else-first_only-clause-none
returns-else-first_only-clause-none c = rw c.nearest_leg.ensures (none_of_set c.args.working (λ k. get_or c.args.heads.now k 0) c.args.s false (omega arith))

pub returns-else-first_only-clause-leg : goal.returns-else-first_only-clause-leg
returns-else-first_only-clause-leg c = rw c.nearest_leg.ensures (chosen_within (has_bit c.args.working) (λ k. get_or c.args.heads.now k 0) c.args.s false)
