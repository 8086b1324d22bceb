use Rattle.std.proofs.Common.{arith}
use Rattle.world_state.specs.contracts.state.CoreState.{the_view}
use Rattle.world_state.proofs.Setting.{sender_set}
use Rattle.world_state.proofs.state.CoreState.set_sender.Goals as goal

pub returns : goal.returns
returns c = rw (← c.self.view_is) (sender_set (the_view c.self.inside) c.args.n c.args.sender (omega (arith, c.requires, c.self.invariant.senders)))
