use Rattle.std.proofs.Common.{arith}
use Rattle.world_state.specs.contracts.state.CoreState.{the_view}
use Rattle.world_state.proofs.Setting.{receiver_set}
use Rattle.world_state.proofs.state.CoreState.set_receiver.Goals as goal

pub returns : goal.returns
returns c = rw (← c.self.view_is) (receiver_set (the_view c.self.inside) c.args.n c.args.receiver (omega (arith, c.requires, c.self.invariant.receivers)))
