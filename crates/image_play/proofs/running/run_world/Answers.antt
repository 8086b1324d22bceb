use Rattle.std.proofs.Common.{refl}
use Rattle.cluster_core.specs.Stands.{stand}
use Rattle.image_faults.specs.declared.faults.ImageError.TheVariants as errors
use Rattle.image_play.proofs.EndLaws.{closes_of, ended, runs_of}
use Rattle.image_play.proofs.running.run_world.Goals as goal

pub returns : goal.returns
returns g c =
    let last = c.run_lines-end.new.world in
    let closes = closes_of g.H.Leg.LegDev.contents g.H.Leg.LegDev.size g.H.Leg.LegDev.faults g.H.Leg.LegDev.plan c.into_legs-legs.result.items last c.args.world.origin c.args.names.now c.args.name.now (g.H.Shelf.contents c.args.shelf.now) c.close_all-closed.result (g.H.Shelf.contents c.close_all-closed.new.shelf) c.into_legs-legs.ensures.legs c.history.ensures.fits c.run_lines-end.ensures.origin c.requires.names c.close_all-closed.ensures.contents in
    ended (record {
      files = g.H.Shelf.contents c.args.shelf.now;
      files_after = g.H.Shelf.contents c.close_all-closed.new.shelf;
      faults = g.H.Shelf.faults c.args.shelf.now;
      faults_after = g.H.Shelf.faults c.close_all-closed.new.shelf;
      leg_faults = g.H.Shelf.leg_faults c.args.shelf.now;
      leg_faults_after = g.H.Shelf.leg_faults c.close_all-closed.new.shelf;
    }) c.args.name.now c.args.lines.now (record {
      written = g.K.Sink.written c.args.sink.now;
      written_after = g.K.Sink.written c.finish.new.sink;
      faults = g.K.Sink.faults c.args.sink.now;
      faults_after = g.K.Sink.faults c.finish.new.sink;
    }) (g.K.Sink.written c.run_lines-end.new.sink) (g.K.Sink.faults c.run_lines-end.new.sink) c.run_lines-end.ensures.later
    c.run_lines-end.result c.close_all-closed.result c.finish.result
    (runs_of (record {
      files = g.H.Shelf.contents c.args.shelf.now;
      files_after = g.H.Shelf.contents c.close_all-closed.new.shelf;
      faults = g.H.Shelf.faults c.args.shelf.now;
      faults_after = g.H.Shelf.faults c.close_all-closed.new.shelf;
      leg_faults = g.H.Shelf.leg_faults c.args.shelf.now;
      leg_faults_after = g.H.Shelf.leg_faults c.close_all-closed.new.shelf;
    }) c.args.name.now c.args.lines.now c.args.world.origin (stand c.args.world) c.requires.starts (stand last) c.history.ensures.few _ _ c.run_lines-end.result c.close_all-closed.result c.run_lines-end.ensures.ran closes)
    c.run_lines-end.ensures.rose c.finish.ensures.later
    (λ l is. c.close_all-closed.ensures.cause.failed (errors.Shelf l) is refl) c.finish.ensures.told
