use Rattle.std.proofs.Common.{◌<◌, sym, subst}
use Rattle.std.specs.Prelude.{IsSome}
use Rattle.mirror_io.specs.Flight.{write_in}
use Rattle.cluster_model.specs.State.{Core}
use Rattle.world_state.specs.Kept.{core_of}
use Rattle.world_io.proofs.Changing.{live_started, io_after}
use Rattle.world_io.proofs.writes.out_io.Goals as goal

pub break_chunk-requires-clause-live : goal.break_chunk-requires-clause-live
break_chunk-requires-clause-live c = subst (λ (x : Core). 0 < (x.bitmap c.args.n).writes c.args.c) (sym c.start_write.ensures) c.requires.counted

pub drop_write-requires-clause-live : goal.drop_write-requires-clause-live
drop_write-requires-clause-live c =
    subst (λ (x : Core). IsSome (write_in c.args.k (x.writes c.args.n))) (sym c.break_chunk.ensures)
    (subst (λ (x : Core). IsSome (write_in c.args.k (x.writes c.args.n))) (sym c.start_write.ensures) (live_started (core_of c.args.core.now) c.args.n c.args.k c.requires.live))

pub returns : goal.returns
returns c = io_after (core_of c.args.core.now) _ _ _ c.args.n c.args.k c.args.c c.requires.live c.requires.chunk c.start_write.ensures c.break_chunk.ensures c.drop_write.ensures
