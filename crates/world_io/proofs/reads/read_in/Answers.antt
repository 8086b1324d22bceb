use Rattle.mdc_types.specs.declared.events.Event.TheVariants.{In}
use Rattle.cluster_model.specs.State.{sizes}
use Rattle.laws_sound.specs.Laws.{IsOnLeg}
use Rattle.world_state.specs.Kept.{core_of}
use Rattle.world_io.proofs.Telling.{in_at}
use Rattle.world_io.proofs.Transferring.{in_transferred, in_is, leg_is_there, leg_below, place_is_there, in_got, in_not_got}
use Rattle.world_io.proofs.reads.read_in.Goals as goal

pub place_of-at-requires-clause-sector : goal.place_of-at-requires-clause-sector
place_of-at-requires-clause-sector g c =
    (in_at (core_of c.args.core.now) c.args.n c.args.k c.requires.ready c.requires.accepted).sector c.live_read-r.result c.live_read-r.ensures

pub receive-requires-clause-leg : goal.receive-requires-clause-leg
receive-requires-clause-leg g c =
    leg_below (core_of c.args.core.now) (In c.args.n c.args.k) (in_transferred (core_of c.args.core.now) c.args.n c.leg_for-l.result c.live_read-r.result) c.requires.ready c.requires.accepted
    (in_is (core_of c.args.core.now) c.args.n c.args.k c.leg_for-l.result c.live_read-r.result c.live_read-r.ensures c.leg_for-l.ensures)

pub receive-requires-clause-there : goal.receive-requires-clause-there
receive-requires-clause-there g c =
    let core = core_of c.args.core.now in
    let on : IsOnLeg (sizes core) (in_transferred core c.args.n c.leg_for-l.result c.live_read-r.result) =
    c.requires.ready.on_legs (In c.args.n c.args.k) _ c.requires.accepted (in_is core c.args.n c.args.k c.leg_for-l.result c.live_read-r.result c.live_read-r.ensures c.leg_for-l.ensures) in
    leg_is_there g.L.LegDev.size c.args.legs.now.items (sizes core) _ on c.requires.fits

pub receive-requires-clause-within : goal.receive-requires-clause-within
receive-requires-clause-within g c =
    let core = core_of c.args.core.now in
    let on : IsOnLeg (sizes core) (in_transferred core c.args.n c.leg_for-l.result c.live_read-r.result) =
    c.requires.ready.on_legs (In c.args.n c.args.k) _ c.requires.accepted (in_is core c.args.n c.args.k c.leg_for-l.result c.live_read-r.result c.live_read-r.ensures c.leg_for-l.ensures) in
    rw c.place_of-at.ensures (place_is_there g.L.LegDev.size c.args.legs.now.items (sizes core) _ on c.requires.fits)

pub in_done-requires-clause-leg : goal.in_done-requires-clause-leg
in_done-requires-clause-leg g c =
    leg_below (core_of c.args.core.now) (In c.args.n c.args.k) (in_transferred (core_of c.args.core.now) c.args.n c.leg_for-l.result c.live_read-r.result) c.requires.ready c.requires.accepted
    (in_is (core_of c.args.core.now) c.args.n c.args.k c.leg_for-l.result c.live_read-r.result c.live_read-r.ensures c.leg_for-l.ensures)

pub in_failed-requires-clause-leg : goal.in_failed-requires-clause-leg
in_failed-requires-clause-leg g c =
    leg_below (core_of c.args.core.now) (In c.args.n c.args.k) (in_transferred (core_of c.args.core.now) c.args.n c.leg_for-l.result c.live_read-r.result) c.requires.ready c.requires.accepted
    (in_is (core_of c.args.core.now) c.args.n c.args.k c.leg_for-l.result c.live_read-r.result c.live_read-r.ensures c.leg_for-l.ensures)

pub returns-in-Ok : goal.returns-in-Ok
returns-in-Ok g c = record {
  carried = in_got c.args.core.now c.in_done.new.core _ _ c.args.n c.args.k c.leg_for-l.result c.place_of-at.result c.live_read-r.result c.requires.accepted c.live_read-r.ensures c.leg_for-l.ensures c.place_of-at.ensures c.in-Ok.value c.in-Ok.ensures c.in_done.ensures;
}

pub returns-in-Err : goal.returns-in-Err
returns-in-Err g c = record {
  carried = in_not_got c.args.core.now c.in_failed.new.core _ _ c.args.n c.args.k c.leg_for-l.result c.place_of-at.result c.live_read-r.result c.requires.accepted c.live_read-r.ensures c.leg_for-l.ensures c.place_of-at.ensures c.in_failed.result c.in-Err.field-0 c.in-Err.ensures c.in_failed.ensures.failure c.in_failed.ensures.after;
}
