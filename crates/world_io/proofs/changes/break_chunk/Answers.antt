use Rattle.world_state.specs.contracts.state.CoreState.{the_view}
use Rattle.world_io.proofs.Changing.{broken_are}
use Rattle.world_io.proofs.changes.break_chunk.Goals as goal

pub returns : goal.returns
returns c = rw (← c.core.view_is) (broken_are (the_view c.core.inside) c.exit.new.self c.need.new.self c.args.n c.args.c c.exit.ensures.bits c.need.ensures.bits)
