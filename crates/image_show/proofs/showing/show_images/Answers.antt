use Rattle.std.proofs.Common.{◌≡◌, ◌∙◌}
use Rattle.image_ends.specs.Seen.{ShelfSeen, SinkSeen}
use Rattle.image_texts.specs.Shown.{show_text}
use Rattle.image_show.proofs.ShowLaws.{shown_answers, error_answers}
use Rattle.image_show.proofs.showing.show_images.Goals as goal

pub returns-in-Ok-clause-answers : goal.returns-in-Ok-clause-answers
returns-in-Ok-clause-answers g c =
    let h : ShelfSeen = record {
      files = g.H.Shelf.contents c.args.shelf.now;
      files_after = g.H.Shelf.contents c.shown.new.shelf;
      faults = g.H.Shelf.faults c.args.shelf.now;
      faults_after = g.H.Shelf.faults c.shown.new.shelf;
      leg_faults = g.H.Shelf.leg_faults c.args.shelf.now;
      leg_faults_after = g.H.Shelf.leg_faults c.shown.new.shelf;
    } in
    let k : SinkSeen = record {
      written = g.K.Sink.written c.args.sink.now;
      written_after = g.K.Sink.written c.tell.new.sink;
      faults = g.K.Sink.faults c.args.sink.now;
      faults_after = g.K.Sink.faults c.tell.new.sink;
    } in
    let images = c.in-Ok.ensures.text.0 in
    let text : c.as_str.result.now ≡ show_text images = c.as_str.ensures.value ∙ c.in-Ok.ensures.text.1.1 in
    shown_answers h k c.args.name.now c.as_str.result.now images c.tell.result c.in-Ok.ensures.text.1.0 text c.in-Ok.ensures.same c.tell.ensures.told

pub returns-in-Err-clause-answers : goal.returns-in-Err-clause-answers
returns-in-Err-clause-answers g c =
    let h : ShelfSeen = record {
      files = g.H.Shelf.contents c.args.shelf.now;
      files_after = g.H.Shelf.contents c.shown.new.shelf;
      faults = g.H.Shelf.faults c.args.shelf.now;
      faults_after = g.H.Shelf.faults c.shown.new.shelf;
      leg_faults = g.H.Shelf.leg_faults c.args.shelf.now;
      leg_faults_after = g.H.Shelf.leg_faults c.shown.new.shelf;
    } in
    let k : SinkSeen = record {
      written = g.K.Sink.written c.args.sink.now;
      written_after = g.K.Sink.written c.tell_error.new.sink;
      faults = g.K.Sink.faults c.args.sink.now;
      faults_after = g.K.Sink.faults c.tell_error.new.sink;
    } in
    error_answers h k c.args.name.now c.in-Err.error c.tell_error.result c.in-Err.ensures.error c.tell_error.ensures.told
