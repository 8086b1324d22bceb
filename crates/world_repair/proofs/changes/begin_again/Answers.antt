use Rattle.world_state.specs.contracts.state.CoreState.{the_view}
use Rattle.world_repair.proofs.Changing.{again_are}
use Rattle.world_repair.proofs.changes.begin_again.Goals as goal

pub returns : goal.returns
returns c = rw (← c.core.view_is) (again_are (the_view c.core.inside) c.begin_again.new.self c.args.n c.args.l c.gathered.result.now c.gathered.ensures.gathered c.begin_again.ensures.copy)
