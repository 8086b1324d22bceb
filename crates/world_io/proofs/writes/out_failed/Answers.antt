use Rattle.world_state.specs.Kept.{core_of}
use Rattle.world_io.proofs.Telling.{out_at}
use Rattle.world_io.proofs.writes.out_failed.Goals as goal

pub out_io-requires-clause-there : goal.out_io-requires-clause-there
out_io-requires-clause-there c = rw c.chunk_of-c.ensures ((out_at (core_of c.args.core.now) c.args.n c.args.k c.args.l c.requires.ready c.requires.accepted).write.chunk c.live_write.result c.live_write.ensures)

pub out_io-requires-clause-counted : goal.out_io-requires-clause-counted
out_io-requires-clause-counted c = rw c.chunk_of-c.ensures ((out_at (core_of c.args.core.now) c.args.n c.args.k c.args.l c.requires.ready c.requires.accepted).write.counted c.live_write.result c.live_write.ensures)
