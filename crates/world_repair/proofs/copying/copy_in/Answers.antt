use Rattle.std.proofs.Common.{refl, ap}
use Rattle.mdc_types.specs.declared.events.Event.TheVariants.{CopyIn}
use Rattle.cluster_model.specs.Transfers.{Transfer, reads_from}
use Rattle.world_state.specs.Kept.{core_of}
use Rattle.world_state.specs.Told.{has_failed}
use Rattle.world_state.proofs.Carrying.{got, not_got}
use Rattle.world_repair.proofs.Reaching.{reach, there_is, as_got, fallen}
use Rattle.world_repair.proofs.copying.copy_in.Goals as goal

pub receive-requires-clause-leg : goal.receive-requires-clause-leg
receive-requires-clause-leg g c = (reach (core_of c.args.core.now) (CopyIn c.args.n) (reads_from c.args.n c.next_place-l.result.0 c.next_place-l.result.1) _ c.requires.ready c.requires.accepted c.next_place-l.ensures c.requires.fits).leg

pub receive-requires-clause-there : goal.receive-requires-clause-there
receive-requires-clause-there g c = there_is g.L.LegDev.size c.args.legs.now.items c.next_place-l.result.0 c.next_place-l.result.1 (reach (core_of c.args.core.now) (CopyIn c.args.n) (reads_from c.args.n c.next_place-l.result.0 c.next_place-l.result.1) _ c.requires.ready c.requires.accepted c.next_place-l.ensures c.requires.fits)

pub receive-requires-clause-within : goal.receive-requires-clause-within
receive-requires-clause-within g c = (reach (core_of c.args.core.now) (CopyIn c.args.n) (reads_from c.args.n c.next_place-l.result.0 c.next_place-l.result.1) _ c.requires.ready c.requires.accepted c.next_place-l.ensures c.requires.fits).within

pub into_buffer-requires-clause-leg : goal.into_buffer-requires-clause-leg
into_buffer-requires-clause-leg g c = (reach (core_of c.args.core.now) (CopyIn c.args.n) (reads_from c.args.n c.next_place-l.result.0 c.next_place-l.result.1) _ c.requires.ready c.requires.accepted c.next_place-l.ensures c.requires.fits).leg

pub fail-requires-clause-leg : goal.fail-requires-clause-leg
fail-requires-clause-leg g c = (reach (core_of c.args.core.now) (CopyIn c.args.n) (reads_from c.args.n c.next_place-l.result.0 c.next_place-l.result.1) _ c.requires.ready c.requires.accepted c.next_place-l.ensures c.requires.fits).leg

pub returns-in-Ok : goal.returns-in-Ok
returns-in-Ok g c =
    let t : Transfer = reads_from c.args.n c.next_place-l.result.0 c.next_place-l.result.1 in
    record { carried = got _ _ _ _ _ _ t c.requires.accepted c.next_place-l.ensures refl c.into_buffer.ensures.after c.in-Ok.v (as_got _ _ c.in-Ok.is c.receive.ensures) c.into_buffer.ensures.outcome (ap has_failed c.into_buffer.ensures.outcome) }

pub returns-in-Err : goal.returns-in-Err
returns-in-Err g c =
    let t : Transfer = reads_from c.args.n c.next_place-l.result.0 c.next_place-l.result.1 in
    let after = fallen (core_of c.args.core.now) (core_of c.args.core.now) (CopyIn c.args.n) t c.fail.result (core_of c.fail.new.core) c.next_place-l.ensures refl refl c.fail.ensures.outcome c.fail.ensures.core in
    record { carried = not_got _ _ _ _ _ _ t c.requires.accepted c.next_place-l.ensures refl after c.in-Err.field-0 (as_got _ _ c.in-Err.is c.receive.ensures) c.fail.ensures.outcome }
