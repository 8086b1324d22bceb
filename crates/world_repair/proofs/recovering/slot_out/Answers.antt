use Rattle.std.proofs.Common.{refl, ap}
use Rattle.std.specs.Prelude.{is_ok}
use Rattle.mdc_types.specs.declared.events.Event.TheVariants.{SlotOut}
use Rattle.cluster_model.specs.Transfers.{Transfer, writes_to}
use Rattle.cluster_model.specs.Failures.{tried}
use Rattle.world_state.specs.Kept.{core_of}
use Rattle.world_state.proofs.Carrying.{sent, not_sent}
use Rattle.world_repair.proofs.Reaching.{reach, there_is, as_sent, fallen}
use Rattle.world_repair.proofs.recovering.slot_out.Goals as goal

pub send-requires-clause-there : goal.send-requires-clause-there
send-requires-clause-there g c = there_is g.L.LegDev.size c.args.legs.now.items c.args.l c.slot_out_place-at.result.0 (reach (core_of c.args.core.now) (SlotOut c.args.n c.args.p c.args.l) (writes_to c.args.n c.args.l c.slot_out_place-at.result.0 c.slot_out_place-at.result.1) _ c.requires.ready c.requires.accepted c.slot_out_place-at.ensures c.requires.fits)

pub send-requires-clause-within : goal.send-requires-clause-within
send-requires-clause-within g c = (reach (core_of c.args.core.now) (SlotOut c.args.n c.args.p c.args.l) (writes_to c.args.n c.args.l c.slot_out_place-at.result.0 c.slot_out_place-at.result.1) _ c.requires.ready c.requires.accepted c.slot_out_place-at.ensures c.requires.fits).within

pub returns-in-Ok : goal.returns-in-Ok
returns-in-Ok g c =
    let t : Transfer = writes_to c.args.n c.args.l c.slot_out_place-at.result.0 c.slot_out_place-at.result.1 in
    record { carried = sent _ _ _ _ _ _ t c.slot_out_place-at.result.1 c.requires.accepted c.slot_out_place-at.ensures refl c.page_cleared.ensures.after (as_sent _ _ (ap is_ok c.in-Ok.is) c.send.ensures) c.page_cleared.ensures.outcome }

pub returns-in-Err : goal.returns-in-Err
returns-in-Err g c =
    let t : Transfer = writes_to c.args.n c.args.l c.slot_out_place-at.result.0 c.slot_out_place-at.result.1 in
    let after = fallen (core_of c.args.core.now) (tried (core_of c.args.core.now) (SlotOut c.args.n c.args.p c.args.l)) (SlotOut c.args.n c.args.p c.args.l) t c.page_tried.result (core_of c.page_tried.new.core) c.slot_out_place-at.ensures refl refl c.page_tried.ensures.outcome c.page_tried.ensures.core in
    record { carried = not_sent _ _ _ _ _ _ t c.slot_out_place-at.result.1 c.requires.accepted c.slot_out_place-at.ensures refl after (as_sent _ _ (ap is_ok c.in-Err.is) c.send.ensures) c.page_tried.ensures.outcome }
