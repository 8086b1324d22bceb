use Rattle.std.proofs.Common.{sym, subst}
use Rattle.std.specs.Prelude.{IsSome}
use Rattle.mirror_io.specs.Flight.{write_in}
use Rattle.cluster_model.specs.State.{Core}
use Rattle.world_state.specs.Kept.{core_of}
use Rattle.world_io.proofs.Changing.{live_started, out_after}
use Rattle.world_io.proofs.writes.out_done.Goals as goal

pub done_on-requires-clause-live : goal.done_on-requires-clause-live
done_on-requires-clause-live c = subst (λ (x : Core). IsSome (write_in c.args.k (x.writes c.args.n))) (sym c.start_write.ensures) (live_started (core_of c.args.core.now) c.args.n c.args.k c.requires.live)

pub returns : goal.returns
returns c = out_after (core_of c.args.core.now) _ _ _ c.args.n c.args.k c.args.l c.args.s c.requires.sector c.start_write.ensures c.done_on.ensures c.set_head.ensures
