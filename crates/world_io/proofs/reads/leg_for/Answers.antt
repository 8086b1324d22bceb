use Rattle.std.proofs.Common.{sym, ◌∙◌}
use Rattle.world_state.specs.Kept.{core_of}
use Rattle.world_io.proofs.Telling.{in_at}
use Rattle.world_io.proofs.Transferring.{never_without}
use Rattle.world_io.proofs.reads.leg_for.Goals as goal

pub read_leg-requires-clause-chosen : goal.read_leg-requires-clause-chosen
read_leg-requires-clause-chosen c = (in_at (core_of c.args.core.now) c.args.n c.args.k c.requires.ready c.requires.accepted).chosen c.args.r.now c.requires.live

pub unreachable-requires : goal.unreachable-requires
unreachable-requires c =
    never_without (core_of c.args.core.now) c.args.n c.args.r.now c.requires.ready (in_at (core_of c.args.core.now) c.args.n c.args.k c.requires.ready c.requires.accepted).up (sym c.read_leg.ensures ∙ c.in-None.is)
