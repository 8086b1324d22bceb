use Rattle.std.proofs.Common.{refl, ap}
use Rattle.mdc_types.specs.declared.events.Event.TheVariants.{SlotIn}
use Rattle.cluster_model.specs.Transfers.{Transfer, reads_from}
use Rattle.world_state.specs.Kept.{core_of}
use Rattle.world_state.specs.Told.{has_failed}
use Rattle.world_state.proofs.Carrying.{got, not_got}
use Rattle.world_repair.proofs.Reaching.{reach, there_is, as_got, fallen}
use Rattle.world_repair.proofs.recovering.slot_in.Goals as goal

pub receive-requires-clause-there : goal.receive-requires-clause-there
receive-requires-clause-there g c = there_is g.L.LegDev.size c.args.legs.now.items c.args.l c.slot_in_place-at.result (reach (core_of c.args.core.now) (SlotIn c.args.n c.args.p c.args.l) (reads_from c.args.n c.args.l c.slot_in_place-at.result) _ c.requires.ready c.requires.accepted c.slot_in_place-at.ensures c.requires.fits)

pub receive-requires-clause-within : goal.receive-requires-clause-within
receive-requires-clause-within g c = (reach (core_of c.args.core.now) (SlotIn c.args.n c.args.p c.args.l) (reads_from c.args.n c.args.l c.slot_in_place-at.result) _ c.requires.ready c.requires.accepted c.slot_in_place-at.ensures c.requires.fits).within

pub returns-in-Ok : goal.returns-in-Ok
returns-in-Ok g c =
    let t : Transfer = reads_from c.args.n c.args.l c.slot_in_place-at.result in
    record { carried = got _ _ _ _ _ _ t c.requires.accepted c.slot_in_place-at.ensures refl c.page_found.ensures.after c.in-Ok.page (as_got _ _ c.in-Ok.is c.receive.ensures) c.page_found.ensures.outcome (ap has_failed c.page_found.ensures.outcome) }

pub returns-in-Err : goal.returns-in-Err
returns-in-Err g c =
    let t : Transfer = reads_from c.args.n c.args.l c.slot_in_place-at.result in
    let after = fallen (core_of c.args.core.now) (core_of c.args.core.now) (SlotIn c.args.n c.args.p c.args.l) t c.fail.result (core_of c.fail.new.core) c.slot_in_place-at.ensures refl refl c.fail.ensures.outcome c.fail.ensures.core in
    record { carried = not_got _ _ _ _ _ _ t c.requires.accepted c.slot_in_place-at.ensures refl after c.in-Err.field-0 (as_got _ _ c.in-Err.is c.receive.ensures) c.fail.ensures.outcome }
