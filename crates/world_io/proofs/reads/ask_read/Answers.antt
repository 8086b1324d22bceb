use Rattle.world_state.specs.Kept.{core_of}
use Rattle.world_io.proofs.Telling.{ask_read_at}
use Rattle.world_io.proofs.reads.ask_read.Goals as goal

pub begin_read-k-requires-clause-room : goal.begin_read-k-requires-clause-room
begin_read-k-requires-clause-room c = (ask_read_at (core_of c.args.core.now) c.args.n c.args.s c.requires.ready c.requires.accepted).room
