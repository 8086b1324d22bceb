use Rattle.std.proofs.Common.{refl, ap}
use Rattle.std.specs.Prelude.{is_ok}
use Rattle.mdc_types.specs.declared.events.Event.TheVariants.{CopyOut}
use Rattle.cluster_model.specs.Transfers.{Transfer, writes_to}
use Rattle.world_state.specs.Kept.{core_of}
use Rattle.world_state.proofs.Carrying.{sent, not_sent}
use Rattle.world_repair.proofs.Reaching.{reach, there_is, as_sent, fallen}
use Rattle.world_repair.proofs.copying.copy_out.Goals as goal

pub send-requires-clause-there : goal.send-requires-clause-there
send-requires-clause-there g c = there_is g.L.LegDev.size c.args.legs.now.items c.args.l c.buffer_place-at.result.0 (reach (core_of c.args.core.now) (CopyOut c.args.n c.args.l) (writes_to c.args.n c.args.l c.buffer_place-at.result.0 c.buffer_place-at.result.1) _ c.requires.ready c.requires.accepted c.buffer_place-at.ensures c.requires.fits)

pub send-requires-clause-within : goal.send-requires-clause-within
send-requires-clause-within g c = (reach (core_of c.args.core.now) (CopyOut c.args.n c.args.l) (writes_to c.args.n c.args.l c.buffer_place-at.result.0 c.buffer_place-at.result.1) _ c.requires.ready c.requires.accepted c.buffer_place-at.ensures c.requires.fits).within

pub returns-in-Ok : goal.returns-in-Ok
returns-in-Ok g c =
    let t : Transfer = writes_to c.args.n c.args.l c.buffer_place-at.result.0 c.buffer_place-at.result.1 in
    record { carried = sent _ _ _ _ _ _ t c.buffer_place-at.result.1 c.requires.accepted c.buffer_place-at.ensures refl c.out_of_buffer.ensures.after (as_sent _ _ (ap is_ok c.in-Ok.is) c.send.ensures) c.out_of_buffer.ensures.outcome }

pub returns-in-Err : goal.returns-in-Err
returns-in-Err g c =
    let t : Transfer = writes_to c.args.n c.args.l c.buffer_place-at.result.0 c.buffer_place-at.result.1 in
    let after = fallen (core_of c.args.core.now) (core_of c.args.core.now) (CopyOut c.args.n c.args.l) t c.fail.result (core_of c.fail.new.core) c.buffer_place-at.ensures refl refl c.fail.ensures.outcome c.fail.ensures.core in
    record { carried = not_sent _ _ _ _ _ _ t c.buffer_place-at.result.1 c.requires.accepted c.buffer_place-at.ensures refl after (as_sent _ _ (ap is_ok c.in-Err.is) c.send.ensures) c.fail.ensures.outcome }
