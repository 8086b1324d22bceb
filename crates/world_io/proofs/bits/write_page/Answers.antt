use Rattle.std.proofs.Common.{refl}
use Rattle.mdc_types.specs.declared.events.Event.TheVariants.{WritePage}
use Rattle.cluster_model.specs.State.{sizes}
use Rattle.laws_sound.specs.Laws.{IsOnLeg}
use Rattle.world_state.specs.Kept.{core_of}
use Rattle.world_io.proofs.Telling.{page_at}
use Rattle.world_io.proofs.Transferring.{page_transferred, page_of_slot, leg_is_there, place_is_there, page_sent, page_not_sent}
use Rattle.world_io.proofs.bits.write_page.Goals as goal

pub page-v-requires-clause-page : goal.page-v-requires-clause-page
page-v-requires-clause-page g c =
    page_of_slot (core_of c.args.core.now) c.args.p c.requires.ready (page_at (core_of c.args.core.now) c.args.n c.args.p c.args.l c.requires.ready c.requires.accepted).page

pub page_place-at-requires-clause-page : goal.page_place-at-requires-clause-page
page_place-at-requires-clause-page g c =
    page_of_slot (core_of c.args.core.now) c.args.p c.requires.ready (page_at (core_of c.args.core.now) c.args.n c.args.p c.args.l c.requires.ready c.requires.accepted).page

pub send-requires-clause-there : goal.send-requires-clause-there
send-requires-clause-there g c =
    let core = core_of c.args.core.now in
    let on : IsOnLeg (sizes core) (page_transferred core c.args.n c.args.p c.args.l) = c.requires.ready.on_legs (WritePage c.args.n c.args.p c.args.l) _ c.requires.accepted refl in
    leg_is_there g.L.LegDev.size c.args.legs.now.items (sizes core) _ on c.requires.fits

pub send-requires-clause-within : goal.send-requires-clause-within
send-requires-clause-within g c =
    let core = core_of c.args.core.now in
    let on : IsOnLeg (sizes core) (page_transferred core c.args.n c.args.p c.args.l) = c.requires.ready.on_legs (WritePage c.args.n c.args.p c.args.l) _ c.requires.accepted refl in
    rw c.page_place-at.ensures (place_is_there g.L.LegDev.size c.args.legs.now.items (sizes core) _ on c.requires.fits)

pub returns-in-Ok : goal.returns-in-Ok
returns-in-Ok g c = record {
  carried = page_sent c.args.core.now c.page_written.new.core _ _ c.args.n c.args.p c.args.l c.page_place-at.result c.page-v.result c.requires.accepted c.page-v.ensures c.page_place-at.ensures c.in-Ok.ensures c.page_written.ensures;
}

pub returns-in-Err : goal.returns-in-Err
returns-in-Err g c = record {
  carried = page_not_sent c.args.core.now c.page_missed.new.core _ _ c.args.n c.args.p c.args.l c.page_place-at.result c.page-v.result c.requires.accepted c.page-v.ensures c.page_place-at.ensures c.page_missed.result c.in-Err.ensures c.page_missed.ensures.failure c.page_missed.ensures.after;
}
