use Rattle.std.proofs.Common.{arith, replicate}
use Rattle.world_state.specs.contracts.state.CoreState.{the_view}
use Rattle.world_state.specs.declared.attempt.Attempt.TheVariants.{Untried}
use Rattle.world_state.proofs.Setting.{tries_set, eight_untried}
use Rattle.world_state.proofs.state.CoreState.forget_tries.Goals as goal

pub returns : goal.returns
returns c = rw (← c.self.view_is, ← eight_untried) (tries_set (the_view c.self.inside) c.args.n (replicate 8 Untried) (omega (arith, c.requires, c.self.invariant.tried)))
