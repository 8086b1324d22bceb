use Rattle.std.proofs.Common.{Err, ap, refl, ◌∙◌}
use Rattle.image_ends.specs.Seen.{ShelfSeen}
use Rattle.image_files.specs.Names.{leg_names}
use Rattle.image_files.proofs.GivenBack.{changes_none}
use Rattle.image_play.specs.Ends.NoMemory.{before}
use Rattle.image_play.proofs.EndLaws.{from_opened, not_opened, opening_errs}
use Rattle.image_play.proofs.running.play_images.Goals as goal

pub returns-in_default : goal.returns-in_default
returns-in_default g c = before refl (changes_none (leg_names c.args.name.now) 8 (g.H.Shelf.contents c.args.shelf.now))

pub returns-in-Ok-open_array : goal.returns-in-Ok-open_array
returns-in-Ok-open_array g c =
    let o = c.in-Ok-open_array.ensures in
    from_opened (record {
      files = g.H.Shelf.contents c.args.shelf.now;
      files_after = g.H.Shelf.contents c.run_legs.new.shelf;
      faults = g.H.Shelf.faults c.args.shelf.now;
      faults_after = g.H.Shelf.faults c.run_legs.new.shelf;
      leg_faults = g.H.Shelf.leg_faults c.args.shelf.now;
      leg_faults_after = g.H.Shelf.leg_faults c.run_legs.new.shelf;
    }) (record {
      files = g.H.Shelf.contents c.open_array.new.shelf;
      files_after = g.H.Shelf.contents c.run_legs.new.shelf;
      faults = g.H.Shelf.faults c.open_array.new.shelf;
      faults_after = g.H.Shelf.faults c.run_legs.new.shelf;
      leg_faults = g.H.Shelf.leg_faults c.open_array.new.shelf;
      leg_faults_after = g.H.Shelf.leg_faults c.run_legs.new.shelf;
    }) c.args.name.now c.args.lines.now (record {
      written = g.K.Sink.written c.args.sink.now;
      written_after = g.K.Sink.written c.run_legs.new.sink;
      faults = g.K.Sink.faults c.args.sink.now;
      faults_after = g.K.Sink.faults c.run_legs.new.sink;
    }) c.run_legs.result o.same refl o.cause.later refl o.uncounted refl c.run_legs.ensures

pub returns : goal.returns
returns g c =
    let o = c.in-Err.ensures in
    let h : ShelfSeen = record {
      files = g.H.Shelf.contents c.args.shelf.now;
      files_after = g.H.Shelf.contents c.open_array.new.shelf;
      faults = g.H.Shelf.faults c.args.shelf.now;
      faults_after = g.H.Shelf.faults c.open_array.new.shelf;
      leg_faults = g.H.Shelf.leg_faults c.args.shelf.now;
      leg_faults_after = g.H.Shelf.leg_faults c.open_array.new.shelf;
    } in
    rw c.images_end.ensures
    (not_opened h c.args.name.now c.args.lines.now (record {
      written = g.K.Sink.written c.args.sink.now;
      written_after = g.K.Sink.written c.tell_error.new.sink;
      faults = g.K.Sink.faults c.args.sink.now;
      faults_after = g.K.Sink.faults c.tell_error.new.sink;
    }) c.in-Err.error c.tell_error.result
    (opening_errs h c.args.name.now c.in-Err.error o.fault o.others (λ is. o.cause.failed c.in-Err.error refl is) (λ l is. o.device l (ap Err is)))
    c.tell_error.ensures.told)
