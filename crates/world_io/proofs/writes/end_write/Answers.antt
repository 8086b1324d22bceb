use Rattle.std.proofs.Common.{sym, subst, false}
use Rattle.std.specs.Prelude.{IsSome}
use Rattle.mirror_io.specs.Flight.{write_in}
use Rattle.cluster_model.specs.State.{Core}
use Rattle.world_state.specs.Kept.{core_of}
use Rattle.world_io.proofs.Telling.{end_at}
use Rattle.world_io.proofs.Changing.{ended_after}
use Rattle.world_io.proofs.writes.end_write.Goals as goal

pub exit_chunk-requires-clause-chunk : goal.exit_chunk-requires-clause-chunk
exit_chunk-requires-clause-chunk c = rw c.chunk_of-c.ensures ((end_at (core_of c.args.core.now) c.args.n c.args.k c.requires.ready c.requires.accepted).chunk c.live_write.result c.live_write.ensures)

pub exit_chunk-requires-clause-live : goal.exit_chunk-requires-clause-live
exit_chunk-requires-clause-live c = rw c.chunk_of-c.ensures ((end_at (core_of c.args.core.now) c.args.n c.args.k c.requires.ready c.requires.accepted).counted c.live_write.result c.live_write.ensures)

pub drop_write-requires-clause-live : goal.drop_write-requires-clause-live
drop_write-requires-clause-live c =
    subst (λ (x : Core). IsSome (write_in c.args.k (x.writes c.args.n))) (sym c.exit_chunk.ensures) (end_at (core_of c.args.core.now) c.args.n c.args.k c.requires.ready c.requires.accepted).live

pub returns-clause-after : goal.returns-clause-after
returns-clause-after c = ended_after (core_of c.args.core.now) _ _ c.args.n c.args.k _ c.live_write.result false c.live_write.ensures c.chunk_of-c.ensures c.exit_chunk.ensures c.drop_write.ensures
