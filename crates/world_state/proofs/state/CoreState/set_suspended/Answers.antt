use Rattle.std.proofs.Common.{arith}
use Rattle.world_state.specs.contracts.state.CoreState.{the_view}
use Rattle.world_state.proofs.Setting.{suspended_set}
use Rattle.world_state.proofs.state.CoreState.set_suspended.Goals as goal

pub returns : goal.returns
returns c = rw (← c.self.view_is) (suspended_set (the_view c.self.inside) c.args.n c.args.ranges (omega (arith, c.requires, c.self.invariant.suspended)))
