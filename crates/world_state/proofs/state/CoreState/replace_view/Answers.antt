use Rattle.std.proofs.Common.{arith}
use Rattle.world_state.specs.contracts.state.CoreState.{the_view}
use Rattle.world_state.proofs.Setting.{view_set}
use Rattle.world_state.proofs.state.CoreState.replace_view.Goals as goal

pub returns : goal.returns
returns c = rw (← c.self.view_is) (view_set (the_view c.self.inside) c.args.n c.args.view (omega (arith, c.requires, c.self.invariant.views)))
