use Rattle.mdc_types.specs.declared.events.Event.TheVariants.{Out}
use Rattle.cluster_model.specs.State.{sizes}
use Rattle.laws_sound.specs.Laws.{IsOnLeg}
use Rattle.world_state.specs.Kept.{core_of}
use Rattle.world_io.proofs.Telling.{out_at}
use Rattle.world_io.proofs.Transferring.{out_transferred, out_is, leg_is_there, place_is_there, out_sent, out_not_sent}
use Rattle.world_io.proofs.writes.out_write.Goals as goal

pub place_of-at-requires-clause-sector : goal.place_of-at-requires-clause-sector
place_of-at-requires-clause-sector g c =
    (out_at (core_of c.args.core.now) c.args.n c.args.k c.args.l c.requires.ready c.requires.accepted).write.sector c.live_write-w.result c.live_write-w.ensures

pub send-requires-clause-there : goal.send-requires-clause-there
send-requires-clause-there g c =
    let core = core_of c.args.core.now in
    let on : IsOnLeg (sizes core) (out_transferred core c.args.n c.args.l c.live_write-w.result) =
    c.requires.ready.on_legs (Out c.args.n c.args.k c.args.l) _ c.requires.accepted (out_is core c.args.n c.args.k c.args.l c.live_write-w.result c.live_write-w.ensures) in
    leg_is_there g.L.LegDev.size c.args.legs.now.items (sizes core) _ on c.requires.fits

pub send-requires-clause-within : goal.send-requires-clause-within
send-requires-clause-within g c =
    let core = core_of c.args.core.now in
    let on : IsOnLeg (sizes core) (out_transferred core c.args.n c.args.l c.live_write-w.result) =
    c.requires.ready.on_legs (Out c.args.n c.args.k c.args.l) _ c.requires.accepted (out_is core c.args.n c.args.k c.args.l c.live_write-w.result c.live_write-w.ensures) in
    rw c.place_of-at.ensures (place_is_there g.L.LegDev.size c.args.legs.now.items (sizes core) _ on c.requires.fits)

pub returns-in-Ok : goal.returns-in-Ok
returns-in-Ok g c = record {
  carried = out_sent c.args.core.now c.out_done.new.core _ _ c.args.n c.args.k c.args.l c.place_of-at.result c.live_write-w.result c.requires.accepted c.live_write-w.ensures c.place_of-at.ensures c.in-Ok.ensures c.out_done.ensures;
}

pub returns-in-Err : goal.returns-in-Err
returns-in-Err g c = record {
  carried = out_not_sent c.args.core.now c.out_failed.new.core _ _ c.args.n c.args.k c.args.l c.place_of-at.result c.live_write-w.result c.requires.accepted c.live_write-w.ensures c.place_of-at.ensures c.out_failed.result c.in-Err.ensures c.out_failed.ensures.failure c.out_failed.ensures.after;
}
